-- `verdict::put_text` meets its contract: what the reading left is an entry list, or a refusal. Assumes nothing.
use mathlib.Core.Path.{sym, ◌∙◌, ap}
use lib.Seq.{length-take-le}
use Rattle.texts.specs.ClaimsPrinted.{claims_line}
use Rattle.buffers.proofs.PutLaws.{room_same, put_same}
use Rattle.claims_printed.proofs.VerdictLaws.{read_list, list_text, read_line}
use Rattle.claims_printed.proofs.verdict.put_text.Goals as goal

pub slice_bounds-check_claims-end : goal.slice_bounds-check_claims-end
slice_bounds-check_claims-end c = (read_list c.read-reading.ensures c.requires.1 c.in-Accepted.is).counted

pub slice_bounds-check_claims-end-in-Accepted : goal.slice_bounds-check_claims-end-in-Accepted
slice_bounds-check_claims-end-in-Accepted c =
    sym (length-take-le _ _ (read_list c.read-reading.ensures c.requires.1 c.in-Accepted.is).counted)

pub put_verdict-requires : goal.put_verdict-requires
put_verdict-requires c =
    room_same
    (list_text c.args.claims.now (read_list c.read-reading.ensures c.requires.1 c.in-Accepted.is) ∙
    ap claims_line (sym c.check_claims-verdict.ensures.result_is))
    c.requires.0

pub returns-in-Accepted : goal.returns-in-Accepted
returns-in-Accepted c =
    record {
      put =
          put_same
          (ap claims_line c.check_claims-verdict.ensures.result_is ∙
          sym (list_text c.args.claims.now (read_list c.read-reading.ensures c.requires.1 c.in-Accepted.is)))
          c.put_verdict.ensures;
      entries_are = c.read-reading.ensures.after_is;
    }

pub put_refusal-requires : goal.put_refusal-requires
put_refusal-requires c =
    room_same (read_line c.read-reading.ensures c.requires.1 c.args.claims.now c.in_default.not-Accepted) c.requires.0

pub returns-in_default : goal.returns-in_default
returns-in_default c =
    record {
      put =
          put_same (sym (read_line c.read-reading.ensures c.requires.1 c.args.claims.now c.in_default.not-Accepted))
          c.put_refusal.ensures;
      entries_are = c.read-reading.ensures.after_is;
    }
