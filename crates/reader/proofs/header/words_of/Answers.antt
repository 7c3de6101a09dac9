-- `reader::header::words_of` meets its contract. What the eight searches find are the cuts of the line. Assumes nothing.
use mathlib.Core.Path.{sym, ap}
use Rattle.std.proofs.Common.{not, rules}
use Rattle.texts.specs.Text.{is_gap}
use Rattle.reader.specs.Words.{header_line}
use Rattle.reader.proofs.HeaderLaws.{Cuts, header_four, words_more}
use Rattle.reader.proofs.header.words_of.Goals as goal

pub returns-then-more-line : goal.returns-then-more-line
returns-then-more-line c =
    let cuts : Cuts c.args.line.now c.find-p_end.result c.find-cnf.result c.find-cnf_end.result c.find-vars.result c.find-vars_end.result
    c.find-clauses.result c.find-clauses_end.result c.find-more.result =
    record {
      p_to = (c.find-p_end.ensures.first is_gap (λ b r w h. search rules));
      cnf_from = (c.find-cnf.ensures.first (λ b. not (is_gap b)) (λ b r w h. search rules));
      cnf_to = (c.find-cnf_end.ensures.first is_gap (λ b r w h. search rules));
      vars_from = (c.find-vars.ensures.first (λ b. not (is_gap b)) (λ b r w h. search rules));
      vars_to = (c.find-vars_end.ensures.first is_gap (λ b r w h. search rules));
      clauses_from = (c.find-clauses.ensures.first (λ b. not (is_gap b)) (λ b r w h. search rules));
      clauses_to = (c.find-clauses_end.ensures.first is_gap (λ b r w h. search rules));
      more_from = (c.find-more.ensures.first (λ b. not (is_gap b)) (λ b r w h. search rules));
    } in
    sym (ap header_line (words_more cuts c.if-more-line.true))

pub returns : goal.returns
returns c =
    let cuts : Cuts c.args.line.now c.find-p_end.result c.find-cnf.result c.find-cnf_end.result c.find-vars.result c.find-vars_end.result
    c.find-clauses.result c.find-clauses_end.result c.find-more.result =
    record {
      p_to = (c.find-p_end.ensures.first is_gap (λ b r w h. search rules));
      cnf_from = (c.find-cnf.ensures.first (λ b. not (is_gap b)) (λ b r w h. search rules));
      cnf_to = (c.find-cnf_end.ensures.first is_gap (λ b r w h. search rules));
      vars_from = (c.find-vars.ensures.first (λ b. not (is_gap b)) (λ b r w h. search rules));
      vars_to = (c.find-vars_end.ensures.first is_gap (λ b r w h. search rules));
      clauses_from = (c.find-clauses.ensures.first (λ b. not (is_gap b)) (λ b r w h. search rules));
      clauses_to = (c.find-clauses_end.ensures.first is_gap (λ b r w h. search rules));
      more_from = (c.find-more.ensures.first (λ b. not (is_gap b)) (λ b r w h. search rules));
    } in
    header_four cuts c.if-more-line.false c.sizes_of.ensures
