-- `put_values` meets its contract: the forced literals are values, the starts are found, and the text is put from them. Assumes nothing.
use mathlib.Core.Path.{◌∙◌, ap}
use Rattle.rules.specs.Meaning.{Values, clauses}
use Rattle.formula.proofs.StartsLaws.{found_front}
use Rattle.buffers.proofs.PutLaws.{put_same}
use Rattle.folded.specs.Folded.{folded_text}
use Rattle.shorter.proofs.MadeLaws.{settled_text, settled_ready}
use Rattle.shorter.proofs.put_values.Goals as goal

pub put_folded-requires : goal.put_folded-requires
put_folded-requires c =
    rw c.fill_start.ensures (settled_ready c.requires.0 _ (found_front c.find_starts-count.ensures))

pub returns : goal.returns
returns c =
    record {
      put =
          put_same
          (ap (λ (vs : Values). folded_text vs (clauses c.args.entries.now) c.args.forced) c.fill_start.ensures ∙
          settled_text c.requires.0)
          c.put_folded.ensures;
      values_are = c.fill_start.ensures;
      starts_are = c.find_starts-count.ensures.starts_are;
    }
