-- The loop of `take_apart`: what a turn keeps, and what each way out says.
-- Assumes nothing.
use Prim.Native.Nat.{ℕ, zero, suc, ◌+◌, ◌-◌, ◌*◌, ◌≤◌, ◌<◌}
use mathlib.Core.Path.{◌≡◌, refl, sym, ap, ◌∙◌}
use Rattle.std.specs.Prelude.{Option, Some, None, Result, Ok, Err}
use mathlib.Core.List.{List, [], ◌∷◌, ◌++◌, append_assoc, append-nil}
use mathlib.Core.Bool.{Bool}
use mathlib.Core.Logic.{◌⊎◌, inl, inr}
use native.Mathlib.Omega.{arith}
use native.Mathlib.Decide.{ℕ_discrete}
use lib.ListN.{length, get_or, set, replicate, length-set, length-replicate}
use lib.Seq.{get_or-set_same, get_or-set_other}
use borrow.Author.Tests.{lt-ltb, le-ltb}
use lib.Dec.{ltb}
use Rattle.form.specs.Form.{Form}
use Rattle.form.specs.Answer.{Out, got, no as refusal, ◌>>=◌, pick, bad_query}
use Rattle.form.proofs.Picks.{lt-or}
use Rattle.form.specs.Paths.{Step}
use Rattle.form.specs.Query.{step_at, steps_at, spelt}
use Rattle.query_steps.specs.Steps.{step_of, no_step, span, step_no, NameIn}
use Rattle.query_steps.specs.Spelling.{words_at, bytes_at, place_of, held_at, refused_at, one_out, Goes, Reads, taken_by, TakenIs}
use Rattle.query_steps.specs.declared.Step.{Step as StepWords}
use Rattle.query_steps.specs.declared.Query.{Query}
use Rattle.form.specs.declared.refusals.Refused.{Refused}
use Rattle.query_steps.specs.declared.One.{One}
use Rattle.query_steps.proofs.Runs.{span-snoc, span-length, span-is, span_same}

-- Some steps before what follows.
abbrev pub before : List Step → Out (List Step) → Out (List Step)
before ss (got l) = got (ss ++ l)
before ss (refusal n p) = refusal n p

before-nil : (o : Out (List Step)) → o ≡ before [] o
before-nil (got l) = refl
before-nil (refusal n p) = refl

before-before : (p q : List Step) (o : Out (List Step)) → before p (before q o) ≡ before (p ++ q) o
before-before p q (got l) = ap got (sym (append_assoc p q l))
before-before p q (refusal n i) = refl

-- No step is held yet.
none-held : (n k : ℕ) → get_or (replicate n no_step) k no_step ≡ no_step
none-held zero k = refl
none-held (suc n) zero = refl
none-held (suc n) (suc k) = none-held n k

-- What the loop keeps: the steps so far, before what the definition says of the rest, are the whole; the array holds them, and behind them
-- none. A step is at most 65,538 bytes, so the place fits a word.
pub record Turn (form : Form) (q : List ℕ) (query : Query) (i : ℕ) : Type 0 where
  pub long : length query.steps ≡ 16
  pub few : query.count ≤ 16
  pub far : i ≤ query.count * 65538
  pub place : i ≡ place_of q query.count
  pub held : (k : ℕ) → get_or query.steps k no_step ≡ held_at q query.count k
  pub names : (k : ℕ) → k < query.count → NameIn q (get_or query.steps k no_step)
  pub spells : spelt form q ≡ before (span (step_no q query) 0 query.count) (steps_at form q (16 - query.count) i)

-- Where it begins.
pub turn-none : (form : Form) (q : List ℕ) (query : Query) → query.steps ≡ replicate 16 no_step → query.count ≡ 0 → Turn form q query 0
unfolding spelt span place_of
turn-none form q query l e = record {
  long = ap length l ∙ length-replicate 16 no_step;
  few = omega arith;
  far = omega arith;
  place = rw e refl;
  held = λ k. rw (l, e, none-held 16 k, le-ltb k 0 (omega arith)) refl;
  names = λ k h. absurd (let z : k < 0 = omega arith in omega arith);
  spells = rw e (before-nil (steps_at form q 16 0));
}

-- The query with one step more.
abbrev pub push : Query → StepWords → Query
push query t = record { steps = set query.steps query.count t; count = query.count + 1 }

module _ (form : Form) (q : List ℕ) (query : Query) (i : ℕ) (turn : Turn form q query i) (lt : i < length q) where
  -- The whole, by what is left.
  left : {o : Out (List Step)} → steps_at form q (16 - query.count) i ≡ o → spelt form q ≡ before (span (step_no q query) 0 query.count) o
  left e = turn.spells ∙ ap (before (span (step_no q query) 0 query.count)) e

  -- What is left where a step follows, and where it is refused.
  left-more : query.count < 16 → (t : StepWords) (j : ℕ) → got (record { step = step_of q t; next = j }) ≡ step_at form q i
      → steps_at form q (16 - query.count) i ≡ before (step_of q t ∷ []) (steps_at form q (16 - (query.count + 1)) j)
  unfolding steps_at
  left-more h t j e =
      let a : 16 - query.count ≡ suc (16 - (query.count + 1)) = omega arith in
      rw (a, steps_at, lt-ltb i (length q) lt, ← e) (go (steps_at form q (16 - (query.count + 1)) j))
    where
      go : (o : Out (List Step)) → (o >>= (λ rest. got (step_of q t ∷ rest))) ≡ before (step_of q t ∷ []) o
      go (got l) = refl
      go (refusal n p) = refl

  left-bad : query.count < 16 → refusal bad_query i ≡ step_at form q i → steps_at form q (16 - query.count) i ≡ refusal bad_query i
  unfolding steps_at
  left-bad h e =
      let a : 16 - query.count ≡ suc (16 - (query.count + 1)) = omega arith in
      rw (a, steps_at, lt-ltb i (length q) lt, ← e)

  left-many : 16 ≤ query.count → steps_at form q (16 - query.count) i ≡ refusal bad_query i
  unfolding steps_at
  left-many h = let a : 16 - query.count ≡ 0 = omega arith in rw (a, steps_at, lt-ltb i (length q) lt)

  span-push : query.count < 16 → (t : StepWords) → span (step_no q (push query t)) 0 (query.count + 1) ≡ span (step_no q query) 0 query.count ++ (step_of q t ∷ [])
  span-push h t =
      let a : query.count + 1 ≡ suc query.count = omega arith in
      let l = turn.long in
      let n : 0 + query.count ≡ query.count = omega arith in
      let s : get_or (set query.steps query.count t) query.count no_step ≡ t = get_or-set_same query.steps query.count t no_step (omega arith) in
      let same : span (step_no q (push query t)) 0 query.count ≡ span (step_no q query) 0 query.count =
      span_same (step_no q (push query t)) (step_no q query) 0 query.count (λ k le lt'. ap (step_of q) (get_or-set_other query.steps query.count k t no_step (λ e. omega arith))) in
      rw (a, span-snoc, n, s, same)

  next : i + bytes_at q i ≡ place_of q (query.count + 1)
  unfolding place_of
  next = let a : query.count + 1 ≡ suc query.count = omega arith in rw a (ap (λ (k : ℕ). k + bytes_at q k) turn.place)

  -- A turn.
  pub turn_more : query.count < 16 → (r : Option One) (o : One) → Reads q i (step_at form q i) r → r ≡ Some o → Turn form q (push query o.step) o.next
  turn_more h r o s e =
      let t = o.step in
      let j = o.next in
      let g = s.goes o e in
      let few = turn.few in
      let far = turn.far in
      let near = g.near in
      let x : got (record { step = step_of q t; next = j }) ≡ step_at form q i = ap (one_out q i) (sym e) ∙ s.is in
      record {
        long = length-set query.steps query.count t ∙ turn.long;
        few = omega arith;
        far = omega arith;
        place = g.place ∙ next;
        held = λ k. keeps g k (ℕ_discrete k query.count);
        names = λ k lt'. go g k lt' (ℕ_discrete k query.count);
        spells =
            let rest = steps_at form q (16 - (query.count + 1)) j in
            left (left-more h t j x) ∙ before-before (span (step_no q query) 0 query.count) (step_of q t ∷ []) rest ∙ ap (λ l. before l rest) (sym (span-push h t));
      }
    where
      -- a step that is not the new one is held as before
      same : (k : ℕ) → (k ≡ query.count → ⊥) → ltb k query.count ≡ ltb k (query.count + 1)
      same k p = by (lt-or k query.count)
        where
          by : (k < query.count) ⊎ (query.count ≤ k) → ltb k query.count ≡ ltb k (query.count + 1)
          by (inl m) = lt-ltb k query.count m ∙ sym (lt-ltb k (query.count + 1) (omega arith))
          by (inr m) = le-ltb k query.count m ∙ sym (le-ltb k (query.count + 1) (let z : (k ≡ query.count) → ⊥ = p in omega (arith, m, z)))

      keeps : Goes q i o.step o.next → (k : ℕ) → Dec (k ≡ query.count) → get_or (set query.steps query.count o.step) k no_step ≡ held_at q (query.count + 1) k
      keeps g k (yes p) =
          let l = turn.long in
          rw (p, get_or-set_same query.steps query.count o.step no_step (omega arith), lt-ltb query.count (query.count + 1) (omega arith)) (g.words ∙ ap (words_at q) turn.place)
      keeps g k (no p) =
          get_or-set_other query.steps query.count k o.step no_step p ∙ turn.held k ∙ ap (λ (x : Bool). pick x (words_at q (place_of q k)) no_step) (same k p)

      go : Goes q i o.step o.next → (k : ℕ) → k < query.count + 1 → Dec (k ≡ query.count) → NameIn q (get_or (set query.steps query.count o.step) k no_step)
      go g k lt' (yes p) = let l = turn.long in rw (p, get_or-set_same query.steps query.count o.step no_step (omega arith)) g.name
      go g k lt' (no p) = rw (get_or-set_other query.steps query.count k o.step no_step p) (turn.names k (omega arith))

  -- The turn goes on in the query's bytes.
  pub turn-after : (r : Option One) (o : One) → Reads q i (step_at form q i) r → r ≡ Some o → i < o.next
  turn-after r o s e = (s.goes o e).after

  -- Refusal 14 there.
  refuses : refusal bad_query i ≡ spelt form q → TakenIs form q (Err (refused_at i))
  refuses e = record { whole = ap (taken_by q) e; is = e; safe = tt }

  -- A step that can't be read.
  pub turn-bad : query.count < 16 → (o : Option One) → Reads q i (step_at form q i) o → o ≡ None → TakenIs form q (Err (refused_at i))
  turn-bad h o s e =
      let x : refusal bad_query i ≡ step_at form q i = ap (one_out q i) (sym e) ∙ s.is in
      refuses (sym (left (left-bad h x)))

  -- A seventeenth step.
  pub turn_many : 16 ≤ query.count → TakenIs form q (Err (refused_at i))
  turn_many h = refuses (sym (left (left-many h)))

left_end : (form : Form) (n : ℕ) (q : List ℕ) (i : ℕ) → length q ≤ i → steps_at form q n i ≡ got []
unfolding steps_at
left_end form zero q i h = rw (steps_at, le-ltb i (length q) h)
left_end form (suc n) q i h = rw (steps_at, le-ltb i (length q) h)

-- The answer of so many steps.
abbrev taken-steps : List ℕ → ℕ → Result Query Refused
taken-steps q n = Ok (record { steps = span (held_at q n) 0 16; count = n })

held_all : (form : Form) (q : List ℕ) (query : Query) (i : ℕ) → Turn form q query i → Ok query ≡ taken-steps q query.count
held_all form q query i turn =
    ap (λ (l : List StepWords). Ok (record { steps = l; count = query.count }))
    (span-is (held_at q query.count) no_step query.steps 0 16 turn.long (λ k h. let z : 0 + k ≡ k = omega arith in rw z (turn.held k)))

-- The end of the bytes.
pub turn_last : (form : Form) (q : List ℕ) (query : Query) (i : ℕ) → Turn form q query i → length q ≤ i → TakenIs form q (Ok query)
turn_last form q query i turn h =
    let z : query.count - 0 ≡ query.count = omega arith in
    let steps = span (step_no q query) 0 query.count in
    let all : spelt form q ≡ got steps = turn.spells ∙ ap (before steps) (left_end form (16 - query.count) q i h) ∙ ap got (append-nil steps) in
    record {
      whole = held_all form q query i turn ∙ ap (λ (n : ℕ). taken-steps q n) (sym (span-length (step_no q query) 0 query.count)) ∙ ap (taken_by q) (sym all);
      is = rw z (sym all);
      safe = record { few = turn.few; names = turn.names };
    }
