-- What a caller in C or Rust gets from the contracts alone, in its numbers.
--
--   reads_in_unique runs_in_unique   no second result meets the promise
--   reads_back runs_back             the numbers lose nothing: the answer that they stand for keeps the promise of the crate below,
--                                    so that every theorem about it holds of them
--   read_refused_exactly             igb_read: each refusal number and place exactly when its rule says
--   read_refused_counts read_refused_kept read_refused_cleared     what is returned and what the buffer holds then
--   read_exactly                     answer 0 exactly if the text is one of the grammar and there is room
--   read_card card_runs              a text that is accepted: its clauses stand in the buffer, and their run is not refused for them
--   answered refused_exactly         igb_run: 0, 20 or 21 exactly if no rule refuses; each refusal number and place exactly
--   nothing_written rest_stays       a refused run writes nothing; what stands behind table, records, hints and rows always stays
--   settled_forced settled_free settled_none_open settled_same     after 0
--   no_model_exactly no_model_table  20
--   forced_sound free_witness free_pair forced_held hints_none calls_most tries_most counted logged recorded     after 0, 20 and 21 alike
--
-- Assumes nothing.
use mathlib.Core.Path.{◌≡◌, refl, sym, ◌∙◌, ap}
use mathlib.Core.Bool.{true, false, cond}
use mathlib.Core.Logic.{◌≢◌, ◌⊎◌, inl, inr, ◌↔◌}
use mathlib.Core.List.{List, ◌++◌, append_assoc}
use Prim.Native.Nat.{ℕ, zero, suc, ◌+◌, ◌-◌, ◌≤◌, ◌<◌}
use native.Mathlib.Omega.{arith}
use lib.Dec.{eqb}
use lib.IntN.{ℤ, pos}
use lib.ListN.{length, get_or, take, drop, replicate}
use lib.Seq.{take-append_seam}
use Rattle.rules.specs.declared.ReadAnswer.{ReadAnswer}
use Rattle.rules.specs.declared.Reading.{Reading}
use Rattle.rules.specs.declared.Refusal.{Refusal}
use Rattle.rules.specs.declared.RunAnswer.{RunAnswer}
use Rattle.rules.specs.declared.Report.{Report}
use Rattle.rules.specs.Numbers.{max_entries, read_number, read_place, refusal_number, refusal_place, run_number, run_place}
use Rattle.texts.specs.Text.{Sizes}
use Rattle.texts.specs.Reading.{reading_of, Reads}
use Rattle.texts.specs.Grammar.{Dimacs}
use Rattle.texts.specs.Refusals.{Refuses}
use Rattle.rules.specs.Meaning.{Values, LitUpTo, index_of, clauses}
use Rattle.rules.specs.Search.{model}
use Rattle.rules.specs.Models.{NoModel, Forced, Free, WitnessOf}
use Rattle.rules.specs.Lists.{count}
use Rattle.rules.specs.Run.{Row, status_at, is_forced_to, first_call}
use Rattle.rules.specs.Hints.{HeldBy}
use Rattle.rules.specs.Held.{with_held, Holdable}
use Rattle.rules.specs.Answer.{Given, Buffers, given, log_length, task_of, report_of, log_of_rows, is_free, is_forced, Runs}
use Rattle.rules.specs.RunRefusals.{Lent, Accepted, RunRefuses}
use Rattle.rules.specs.Log.{LogOf}
use Rattle.rules.specs.Recorded.{RecordsIn}
use Rattle.rules.specs.Witness.{PairAt}
use Rattle.rules.proofs.ListLaws.{both, never}
use Rattle.rules.proofs.Theorems as theorems
use Rattle.texts.proofs.Theorems as text-theorems
use Rattle.texts.proofs.ReadingTheorems.{read_accepts, read_accepted}
use Rattle.texts.proofs.TextTheorems.{dimacs_runs}
use Rattle.backbone.proofs.Promises as run
use Rattle.igbezolum.specs.declared.IgbReading.{IgbReading}
use Rattle.igbezolum.specs.declared.IgbReport.{IgbReport}
use Rattle.igbezolum.specs.Linked.{reading_numbers, report_numbers, ReadsIn, RunsIn}

-- ---- one result

pub reads_in_unique : {text : List ℕ} {before : List ℤ} {n m : IgbReading} {b c : List ℤ}
    → ReadsIn text before n b → ReadsIn text before m c → (n ≡ m) × (b ≡ c)
reads_in_unique d e = (d.result_is ∙ sym e.result_is, d.after_is ∙ sym e.after_is)

-- ---- the answer of a number and a place; a number that no answer has stands for the last one

abbrev pub read_answer : ℕ → ℕ → ReadAnswer
read_answer n at =
    cond (eqb n 0) ReadAnswer.Accepted
    (cond (eqb n 1) ReadAnswer.ShortBuffer
    (cond (eqb n 2) ReadAnswer.LongText
    (cond (eqb n 3) (ReadAnswer.BadHeader at)
    (cond (eqb n 4) (ReadAnswer.LargeHeader at)
    (cond (eqb n 5) (ReadAnswer.BadToken at)
    (cond (eqb n 6) (ReadAnswer.TokenBehind at)
    (cond (eqb n 7) (ReadAnswer.TokenOverVars at)
    (cond (eqb n 8) (ReadAnswer.ManyTokens at)
    (ReadAnswer.ShortText at)))))))))

read_answer_numbers : (a : ReadAnswer) → read_answer (read_number a) (read_place a) ≡ a
read_answer_numbers ReadAnswer.Accepted = refl
read_answer_numbers ReadAnswer.ShortBuffer = refl
read_answer_numbers ReadAnswer.LongText = refl
read_answer_numbers (ReadAnswer.BadHeader at) = refl
read_answer_numbers (ReadAnswer.LargeHeader at) = refl
read_answer_numbers (ReadAnswer.BadToken at) = refl
read_answer_numbers (ReadAnswer.TokenBehind at) = refl
read_answer_numbers (ReadAnswer.TokenOverVars at) = refl
read_answer_numbers (ReadAnswer.ManyTokens at) = refl
read_answer_numbers (ReadAnswer.ShortText at) = refl

abbrev pub refusal_of_number : ℕ → ℕ → Refusal
refusal_of_number n at =
    cond (eqb n 1) Refusal.ShortBuffer
    (cond (eqb n 10) Refusal.BadLimits
    (cond (eqb n 11) (Refusal.BadList at)
    (cond (eqb n 12) (Refusal.EntryOverVars at)
    (cond (eqb n 13) (Refusal.BadLiteral at)
    (cond (eqb n 14) Refusal.NotFree
    Refusal.ManyHeld)))))

abbrev pub run_answer : ℕ → ℕ → RunAnswer
run_answer n at =
    cond (eqb n 0) RunAnswer.Settled
    (cond (eqb n 20) RunAnswer.NoModel
    (cond (eqb n 21) RunAnswer.Stopped
    (RunAnswer.Refused (refusal_of_number n at))))

pub run_answer_numbers : (a : RunAnswer) → run_answer (run_number a) (run_place a) ≡ a
run_answer_numbers RunAnswer.Settled = refl
run_answer_numbers RunAnswer.NoModel = refl
run_answer_numbers RunAnswer.Stopped = refl
run_answer_numbers (RunAnswer.Refused Refusal.ShortBuffer) = refl
run_answer_numbers (RunAnswer.Refused Refusal.BadLimits) = refl
run_answer_numbers (RunAnswer.Refused (Refusal.BadList at)) = refl
run_answer_numbers (RunAnswer.Refused (Refusal.EntryOverVars at)) = refl
run_answer_numbers (RunAnswer.Refused (Refusal.BadLiteral at)) = refl
run_answer_numbers (RunAnswer.Refused Refusal.NotFree) = refl
run_answer_numbers (RunAnswer.Refused Refusal.ManyHeld) = refl

-- ---- and so the promise below

abbrev pub reading_from : IgbReading → Reading
reading_from n =
    record {
      answer = read_answer n.answer n.place;
      vars = n.vars;
      clauses = n.clauses;
      entries = n.count;
    }

abbrev pub report_from : IgbReport → Report
report_from n =
    record {
      answer = run_answer n.answer n.place;
      calls = n.calls;
      tries = n.tries;
      forced = n.forced;
      free = n.free;
    }

reading_back : (r : Reading) → reading_from (reading_numbers r) ≡ r
reading_back r = ap (λ (a : ReadAnswer). record { answer = a; vars = r.vars; clauses = r.clauses; entries = r.entries }) (read_answer_numbers r.answer)

pub report_back : (r : Report) → report_from (report_numbers r) ≡ r
report_back r =
    ap (λ (a : RunAnswer). record { answer = a; calls = r.calls; tries = r.tries; forced = r.forced; free = r.free })
    (run_answer_numbers r.answer)

pub reads_back : {text : List ℕ} {before after : List ℤ} {n : IgbReading} → ReadsIn text before n after → Reads text before (reading_from n) after
reads_back {text = text} {before = before} d =
    record { result_is = ap reading_from d.result_is ∙ reading_back (reading_of text before); after_is = d.after_is }

pub runs_back : {g : Given} {n : IgbReport} {after : Buffers} → RunsIn g n after → Runs g (report_from n) after
runs_back {g = g} d =
    record {
      result_is = ap report_from d.result_is ∙ report_back (report_of g);
      status_is = d.status_is;
      calls_are = d.calls_are;
      ways_are = d.ways_are;
      hints_are = d.hints_are;
      log_is = d.log_is;
    }

pub runs_in_unique : {g : Given} {n m : IgbReport} {b c : Buffers} → RunsIn g n b → RunsIn g m c → (n ≡ m) × (b ≡ c)
runs_in_unique d e = (d.result_is ∙ sym e.result_is, (theorems.runs_unique (runs_back d) (runs_back e)).1)

-- ---- a text that is refused

pos_of : (n : ℕ) → n ≢ 0 → 1 ≤ n
pos_of zero h = absurd (h refl)
pos_of (suc n) h = omega arith

module _ {text : List ℕ} {before after : List ℤ} {n : IgbReading} (w : ReadsIn text before n after) where
  read_number_is : n.answer ≡ read_number (reading_of text before).answer
  read_number_is = ap (λ (m : IgbReading). m.answer) w.result_is

  read_place_is : n.place ≡ read_place (reading_of text before).answer
  read_place_is = ap (λ (m : IgbReading). m.place) w.result_is

  -- each refusal number and place exactly when its rule says so
  pub read_refused_exactly : (a : ReadAnswer) → a ≢ ReadAnswer.Accepted
      → ((n.answer ≡ read_number a) × (n.place ≡ read_place a)) ↔ Refuses (length before) text a
  read_refused_exactly a ne =
      let exactly = text-theorems.reader_refuses text before a ne in
      let answer_is : (reading_from n).answer ≡ (reading_of text before).answer = ap (λ (r : Reading). r.answer) (reads_back w).result_is in (
        λ e. exactly.0 (sym answer_is ∙ cc (e.0, e.1) ∙ read_answer_numbers a),
        λ h. let q = exactly.1 h in (read_number_is ∙ ap read_number q, read_place_is ∙ ap read_place q),
      )

  -- the counts are zero, and the buffer is as it was after 1 and 2, cleared after 3 to 9; a longer one keeps its rest
  pub read_refused_counts : n.answer ≢ 0 → (n.vars ≡ 0) × (n.clauses ≡ 0) × (n.count ≡ 0)
  read_refused_counts ne =
      let (v, c, k) = text-theorems.reader_counts text before (omega (arith, read_number_is, pos_of n.answer ne)) in (
        ap (λ (m : IgbReading). m.vars) w.result_is ∙ v,
        ap (λ (m : IgbReading). m.clauses) w.result_is ∙
            c,
        ap (λ (m : IgbReading). m.count) w.result_is ∙ k,
      )

  pub read_refused_kept : (n.answer ≡ 1) ⊎ (n.answer ≡ 2) → after ≡ before
  read_refused_kept h = w.after_is ∙ text-theorems.reader_keeps text before (rw (sym read_number_is) h)

  pub read_refused_cleared : 3 ≤ n.answer → after ≡ replicate 4096 (pos 0) ++ drop 4096 before
  read_refused_cleared h = w.after_is ∙ text-theorems.reader_clears text before (rw (sym read_number_is) h)

-- ---- a text that is accepted

-- the grammar derives the text, with V and C as returned, and its entries stand at the front of the buffer
pub record CardRead (text : List ℕ) (n : IgbReading) (after : List ℤ) : Type 0 where
  pub entries : List ℤ
  pub derived : Dimacs text n.vars n.clauses entries
  pub stands : take n.count after ≡ entries

card_of : {text : List ℕ} {before after : List ℤ} {n : IgbReading} → ReadsIn text before n after
    → max_entries ≤ length before → (s : Sizes) (es : List ℤ) → Dimacs text s.vars s.clauses es → CardRead text n after
card_of {text = text} {before = before} {after = after} {n = n} w room s es d =
    let (e, f) = (read_accepts text before room s es).0 d in
    let same = w.result_is ∙ ap reading_numbers e in
    record {
      entries = es;
      derived = rw (ap (λ (m : IgbReading). m.vars) same, ap (λ (m : IgbReading). m.clauses) same) d;
      stands =
          ap (λ (m : IgbReading). take m.count after) same ∙
          ap (take (length es)) (w.after_is ∙ f ∙ append_assoc es (replicate (max_entries - length es) (pos 0)) (drop max_entries before)) ∙
          take-append_seam es (replicate (max_entries - length es) (pos 0) ++ drop max_entries before);
    }

module _ {text : List ℕ} {before after : List ℤ} {n : IgbReading} (w : ReadsIn text before n after) (z : n.answer ≡ 0) where
  is-accepted : (reading_of text before).answer ≡ ReadAnswer.Accepted
  is-accepted =
      sym (ap (λ (q : Reading). q.answer) (reads_back w).result_is) ∙ ap (λ (k : ℕ). read_answer k n.place) z

  pub read_card : CardRead text n after
  read_card = let (room, s, es, d) = read_accepted text before is-accepted in card_of w room s es d

  pub read_room : max_entries ≤ length before
  read_room = (read_accepted text before is-accepted).0

  -- with literals that may be held, buffers that are long enough and limits that are allowed the run of what was read is not refused
  pub card_runs : (held : List ℤ) (budget limit : ℕ) (lent : Buffers) → Holdable n.vars held
      → Lent (given (take n.count after) n.vars held budget limit lent)
      → Accepted (given (take n.count after) n.vars held budget limit lent)
  card_runs held budget limit lent h l =
      let c = read_card in
      dimacs_runs (given (take n.count after) n.vars held budget limit lent) (rw (← c.stands) at c.derived) l h

-- 0 is answered exactly if there is room and the text is one of the grammar
pub read_exactly : {text : List ℕ} {before after : List ℤ} {n : IgbReading} → ReadsIn text before n after
    → (n.answer ≡ 0) ↔ ((max_entries ≤ length before) × (s : Sizes) × (es : List ℤ) × Dimacs text s.vars s.clauses es)
read_exactly {text} {before} w = (
  λ z. read_accepted text before (is-accepted w z),
  λ h. let (room, s, es, d) = h in ap (λ (m : IgbReading). m.answer) w.result_is ∙
      ap (λ (r : Reading). read_number r.answer) ((read_accepts text before room s es).0 d).0,
)

-- ---- what a run answers, and what it writes

-- the answers of a run that is not refused
abbrev pub Answered : IgbReport → Type 0
Answered n = (n.answer ≡ 0) ⊎ ((n.answer ≡ 20) ⊎ (n.answer ≡ 21))

pub answered_number : (a : RunAnswer) → run.is_answered a ≡ true → (run_number a ≡ 0) ⊎ ((run_number a ≡ 20) ⊎ (run_number a ≡ 21))
answered_number RunAnswer.Settled e = inl refl
answered_number RunAnswer.NoModel e = inr (inl refl)
answered_number RunAnswer.Stopped e = inr (inr refl)
answered_number (RunAnswer.Refused a) e = absurd (never e refl)

module _ {g : Given} {n : IgbReport} {after : Buffers} (w : RunsIn g n after) where
  below : Runs g (report_from n) after
  below = runs_back w

  pub answer_of_lem : (k : ℕ) → n.answer ≡ k → (report_from n).answer ≡ run_answer k n.place
  answer_of_lem k e = ap (λ (m : ℕ). run_answer m n.place) e

  pub number_is : n.answer ≡ run_number (report_from n).answer
  number_is = ap (λ (m : IgbReport). m.answer) w.result_is ∙ ap (λ (r : Report). run_number r.answer) (sym below.result_is)

  place_is : n.place ≡ run_place (report_from n).answer
  place_is = ap (λ (m : IgbReport). m.place) w.result_is ∙ ap (λ (r : Report). run_place r.answer) (sym below.result_is)

  answered_so : Answered n → run.is_answered (report_from n).answer ≡ true
  answered_so (inl e) = ap run.is_answered (answer_of_lem 0 e)
  answered_so (inr (inl e)) = ap run.is_answered (answer_of_lem 20 e)
  answered_so (inr (inr e)) = ap run.is_answered (answer_of_lem 21 e)

  -- 0, 20 or 21 is answered exactly if no rule refuses
  pub answered : Answered n ↔ Accepted g
  answered =
      (λ a. (run.answered below).0 (answered_so a), λ h. rw number_is (answered_number (report_from n).answer ((run.answered below).1 h)))

  -- each refusal number and place exactly when its rule says so
  pub refused_exactly : (a : Refusal) → ((n.answer ≡ refusal_number a) × (n.place ≡ refusal_place a)) ↔ RunRefuses g a
  refused_exactly a =
      let exactly = run.refused_exactly below a in (
        λ e. exactly.0 (cc (e.0, e.1) ∙ run_answer_numbers (RunAnswer.Refused a)),
        λ h. let q = exactly.1 h in (number_is ∙ ap run_number q, place_is ∙ ap run_place q),
      )

  -- the refusal of a run that was not answered with 0, 20 or 21
  refused_by_lem : (Answered n → ⊥) → (a : Refusal) × RunRefuses g a
  refused_by_lem ne = go (report_from n).answer refl
    where
      go : (a : RunAnswer) → (report_from n).answer ≡ a → (b : Refusal) × RunRefuses g b
      go RunAnswer.Settled q = absurd (ne (answered.1 ((run.answered below).0 (ap run.is_answered q))))
      go RunAnswer.NoModel q = absurd (ne (answered.1 ((run.answered below).0 (ap run.is_answered q))))
      go RunAnswer.Stopped q = absurd (ne (answered.1 ((run.answered below).0 (ap run.is_answered q))))
      go (RunAnswer.Refused b) q = (b, (run.refused_exactly below b).0 q)

  -- a refused run returns zero counts and writes nothing
  pub nothing_written : (Answered n → ⊥) → (n.calls ≡ 0) × (n.tries ≡ 0) × (n.forced ≡ 0) × (n.free ≡ 0)
      × (after.status ≡ g.status) × (after.calls ≡ g.calls) × (after.ways ≡ g.ways) × (after.hints ≡ g.hints) × (after.log ≡ g.log)
  nothing_written ne =
      let (a, h) = refused_by_lem ne in
      let (r, s, c, y, m, l) = run.nothing_written below a h in (
        ap (λ (q : Report). q.calls) r,
        ap (λ (q : Report). q.tries) r,
        ap (λ (q : Report). q.forced) r,
        ap (λ (q : Report). q.free) r,
        s,
        c,
        y,
        m,
        l,
      )

  -- what stands behind the table, the records, the hints and the rows stays, whatever is answered
  abbrev RestStays : Type 0
  RestStays = (drop g.vars after.status ≡ drop g.vars g.status)
      × (drop g.vars after.calls ≡ drop g.vars g.calls)
      × (drop g.vars after.ways ≡ drop g.vars g.ways)
      × (drop g.vars after.hints ≡ drop g.vars g.hints)
      × (drop (log_length g.vars) after.log ≡ drop (log_length g.vars) g.log)

  pub rest_stays : RestStays
  rest_stays = go (both (run.is_answered (report_from n).answer))
    where
      go : (run.is_answered (report_from n).answer ≡ true) ⊎ (run.is_answered (report_from n).answer ≡ false) → RestStays
      go (inl t) = run.rest_stays below ((run.answered below).0 t)
      go (inr f) =
          let (a, h) = refused_by_lem (λ x. never (answered_so x) f) in
          let (r, s, c, y, m, l) = run.nothing_written below a h in
          (ap (drop g.vars) s, ap (drop g.vars) c, ap (drop g.vars) y, ap (drop g.vars) m, ap (drop (log_length g.vars)) l)

  -- ---- a settled run

  settled_accepted : n.answer ≡ 0 → Accepted g
  settled_accepted e = answered.0 (inl e)

  -- after 0 a literal is marked forced exactly if a model exists and all models contain it
  pub settled_forced : n.answer ≡ 0 → (l : ℤ) → LitUpTo g.vars l
      → is_forced_to (take g.vars after.status) l ↔ Forced g.vars (with_held (clauses g.entries) g.held) l
  settled_forced e = run.settled_forced below (settled_accepted e) (answer_of_lem 0 e)

  -- a variable is marked free exactly if two models differ on it
  pub settled_free : n.answer ≡ 0 → (i : ℕ) → i < g.vars
      → (status_at (take g.vars after.status) i ≡ 1) ↔ Free g.vars (with_held (clauses g.entries) g.held) i
  settled_free e = run.settled_free below (settled_accepted e) (answer_of_lem 0 e)

  -- and none is open
  pub settled_none_open : n.answer ≡ 0 → (i : ℕ) → status_at (take g.vars after.status) i ≢ 0
  settled_none_open e = run.settled_none_open below (settled_accepted e) (answer_of_lem 0 e)

  -- ---- no model

  -- unless the budget stopped the run, 20 is answered exactly if there is no model
  pub no_model_exactly : Answered n → n.answer ≢ 21 → (n.answer ≡ 20) ↔ NoModel g.vars (with_held (clauses g.entries) g.held)
  no_model_exactly a ne =
      let exactly = run.no_model_exactly below (answered.0 a) (λ e. ne (number_is ∙ ap run_number e)) in
      (λ e. exactly.0 (answer_of_lem 20 e), λ m. number_is ∙ ap run_number (exactly.1 m))

  -- after 20 all variables are open, and the log has one row
  pub no_model_table : n.answer ≡ 20 → (take g.vars after.status ≡ replicate g.vars 0) × (n.calls ≡ 1)
  no_model_table e = run.no_model_table below (answered.0 (inr (inl e))) (answer_of_lem 20 e)

  -- ---- however it was answered, with 0, 20 or 21

  module _ (a : Answered n) where
    -- a literal marked forced is in all models, and there is one
    pub forced_sound : (l : ℤ) → LitUpTo g.vars l → is_forced_to (take g.vars after.status) l
        → Forced g.vars (with_held (clauses g.entries) g.held) l
    forced_sound = run.forced_sound below (answered.0 a)

    -- a variable marked free has its witness against the run's first model
    pub free_witness : (i : ℕ) → i < g.vars → status_at (take g.vars after.status) i ≡ 1
        → WitnessOf g.vars (with_held (clauses g.entries) g.held) (Rattle.rules.specs.Run.run (task_of g)).progress.models i
    free_witness = run.free_witness below (answered.0 a)

    -- a literal marked forced has a hint, and in the first model it is the only true literal of the clause with that number
    pub forced_held : (l : ℤ) → LitUpTo g.vars l → is_forced_to (take g.vars after.status) l
        → (m : Values) × (t : ℕ) × (first_call (task_of g) ≡ model m t)
        × HeldBy (with_held (clauses g.entries) g.held) m l (get_or (take g.vars after.hints) (index_of l) 0)
    forced_held = run.forced_held below (answered.0 a)

    -- each hint is 0 if no first model was found
    pub hints_none : ((m : Values) (t : ℕ) → first_call (task_of g) ≡ model m t → ⊥) → take g.vars after.hints ≡ replicate g.vars 0
    hints_none = run.hints_none below (answered.0 a)

    pub calls_most : n.calls ≤ g.vars + 1
    calls_most = run.calls_most below (answered.0 a)

    -- all of the budget is spent where the run was stopped
    pub tries_most : (n.tries ≤ g.budget) × (n.answer ≡ 21 → n.tries ≡ g.budget)
    tries_most = let (m, f) = run.tries_most below (answered.0 a) in (m, λ e. f (answer_of_lem 21 e))

    -- the numbers forced and free are those of the table
    pub counted : (n.forced ≡ count is_forced (take g.vars after.status)) × (n.free ≡ count is_free (take g.vars after.status))
    counted = run.counted below (answered.0 a)

    -- the log has a row for each call begun, and zeros behind; its rows are numbered from 1, each call after the first that finds a
    -- model frees at least one variable, each that finds none forces at least one, and the columns add up to what is returned
    pub logged : (rows : List Row)
        × (take (log_length g.vars) after.log ≡ log_of_rows g.vars rows)
        × (length rows ≡ n.calls)
        × LogOf rows n.free n.forced n.tries
    logged = run.logged below (answered.0 a)

    -- calls and ways are those of records with these statuses: 0 exactly while a variable is open, and each row's two drops, and its chunk if
    -- it says 2, are the counts of the records with its call and way
    pub recorded :
        RecordsIn g.vars n.calls (take g.vars after.status) (take g.vars after.calls) (take g.vars after.ways)
        (take (log_length g.vars) after.log)
    recorded = run.recorded below (answered.0 a)

    -- the first model and the witness of a variable marked free
    pub free_pair : (i : ℕ) → i < g.vars → status_at (take g.vars after.status) i ≡ 1
        → PairAt g.vars (with_held (clauses g.entries) g.held) (Rattle.rules.specs.Run.run (task_of g)).progress i
    free_pair = run.free_pair below (answered.0 a)

-- budget and chunk limit never change a settled status
pub settled_same : {es : List ℤ} {vars : ℕ} {held : List ℤ} (budget limit budget' limit' : ℕ) {lent lent' after after' : Buffers} {n n' : IgbReport}
    → RunsIn (given es vars held budget limit lent) n after → RunsIn (given es vars held budget' limit' lent') n' after'
    → n.answer ≡ 0 → n'.answer ≡ 0 → take vars after.status ≡ take vars after'.status
settled_same budget limit budget' limit' w v e f =
    run.settled_same budget limit budget' limit' (runs_back w) (runs_back v)
    (settled_accepted w e) (settled_accepted v f) (answer_of_lem w 0 e) (answer_of_lem v 0 f)
