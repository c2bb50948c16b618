-- Laws for the code that takes lines one by one: what n lines have put into the table, and what the rest then adds to the answer.
-- Assumes nothing.
use Prim.Native.Nat.{ℕ, ◌+◌, ◌*◌, ◌/◌, ◌≤◌, ◌<◌}
use mathlib.Core.Path.{◌≡◌, refl, sym, ap, ◌∙◌, subst}
use mathlib.Core.List.{List, [], ◌++◌, append-nil, append_assoc}
use mathlib.Core.Bool.{true, false}
use native.Mathlib.Omega.{arith}
use borrow.Author.Tests.{le-leb, lt-leb}
use lib.ListN.{length, drop, replicate, length-append, length-drop, drop_of_length-le}
use lib.Seq.{drop-drop}
use Rattle.form.specs.Answer.{Out, got, no, ◌>>=◌, record_limit}
use Rattle.form.specs.Spans.{part, over}
use Rattle.form.specs.Stored.{lines_in, words_of, each_line, lines_read, reading_lines, records_of, words_after, ReadLinesIs}
use Rattle.form.proofs.Answer.{got-no}
use Rattle.form.proofs.Table.{over_none, over-length, over-over}
use Rattle.form.proofs.Stored.{words-length, no_lines, each_none, each-bad, each-full, each-good, accepted-long}
use Rattle.std.specs.Prelude.{Result}
use Rattle.form.specs.declared.refusals.Refused.{Refused}
use Rattle.table_store.specs.Steps.{answer_out, FirstLine, Put, TakenIs}

-- What the lines s give, with the room of a table t.
abbrev whole : List ℕ → List ℕ → Out (List ℕ)
whole s t = each_line 9 (length t / 9) 1 (lines_in s)

-- The same from line n on, with the words before it.
abbrev onwards : List ℕ → List ℕ → List ℕ → ℕ → Out (List ℕ)
onwards s t ws n = each_line 9 (length t / 9) (n + 1) (lines_in (drop (73 * n) s)) >>= λ vs. got (ws ++ vs)

-- After n lines: their words stand in the table, and the answer is what the other lines add to them.
pub record Sofar (s t₀ t : List ℕ) (n : ℕ) : Type 0 where
  pub ws : List ℕ
  pub long : length ws ≡ 9 * n
  pub room : 9 * n ≤ length t₀
  pub begun : 73 * n ≤ length s
  pub table : t ≡ over t₀ 0 ws
  pub is : whole s t₀ ≡ onwards s t₀ ws n

-- No words before the others change nothing, and words before words go together.
pub then_same : (o : Out (List ℕ)) → o ≡ (o >>= λ vs. got ([] ++ vs))
then_same (got vs) = refl
then_same (no n p) = refl

pub then-more : (o : Out (List ℕ)) (us ws : List ℕ) → ((o >>= λ vs. got (us ++ vs)) >>= λ vs. got (ws ++ vs)) ≡ (o >>= λ vs. got ((ws ++ us) ++ vs))
then-more (got vs) us ws = ap got (sym (append_assoc ws us vs))
then-more (no n p) us ws = refl

pub sofar-start : (s t : List ℕ) → Sofar s t t 0
sofar-start s t = record {
  ws = [];
  long = refl;
  room = omega arith;
  begun = omega arith;
  table = sym (over_none t 0);
  is = then_same (whole s t);
}

-- What is refused: the answer, and a table of the length it had.
taken-no : (s t t' : List ℕ) (m p : ℕ) → whole s t ≡ no m p → length t' ≡ length t → TakenIs s t (no m p) t'
taken-no s t t' m p e long = record { answer_is = ap records_of (sym e); put = rw e long }

module _ (s t₀ t : List ℕ) (n : ℕ) (f : Sofar s t₀ t n) where
  pub sofar-length : length t ≡ length t₀
  sofar-length = ap length f.table ∙ over-length t₀ 0 f.ws (omega (arith, f.long, f.room))

  -- The other lines are refused, and so are all.
  rest-no : (m p : ℕ) → each_line 9 (length t₀ / 9) (n + 1) (lines_in (drop (73 * n) s)) ≡ no m p → TakenIs s t₀ (no m p) t
  rest-no m p e = taken-no s t₀ t m p (f.is ∙ ap (λ o. o >>= λ vs. got (f.ws ++ vs)) e) sofar-length

  -- The next line is bad (29), or good and without room (8); or there is none, and all are taken.
  pub sofar-bad : FirstLine 9 (drop (73 * n) s) false → TakenIs s t₀ (no 29 (n + 1)) t
  sofar-bad l = rest-no 29 (n + 1) (rw l.lines_are (each-bad 9 (length t₀ / 9) (n + 1) l.line l.later (sym l.told)))

  pub sofar-full : FirstLine 9 (drop (73 * n) s) true → length t₀ / 9 ≤ n → TakenIs s t₀ (no 8 (n + 1)) t
  sofar-full l h = rest-no 8 (n + 1) (rw l.lines_are (each-full 9 (length t₀ / 9) (n + 1) l.line l.later (sym l.told) (omega arith)))

  pub sofar-end : length s ≤ 73 * n → TakenIs s t₀ (got n) t
  sofar-end h =
      let e : whole s t₀ ≡ got f.ws =
      f.is ∙ rw (drop_of_length-le s h, no_lines, each_none 9 (length t₀ / 9) (n + 1)) (ap got (append-nil f.ws)) in
      record { answer_is = ap got (omega (arith, f.long)) ∙ ap records_of (sym e); put = rw e f.table }

  module _ (l : FirstLine 9 (drop (73 * n) s) true) where
    -- A good line takes 73 bytes.
    pub line-there : 73 * n + 73 ≤ length s
    line-there =
        let long : 73 ≤ length (drop (73 * n) s) = (l.front refl).long in
        omega (arith, length-drop (73 * n) s, f.begun)

    -- What stands behind it.
    behind-line : l.later ≡ lines_in (drop (73 * (n + 1)) s)
    behind-line =
        let e : 73 * (n + 1) ≡ 73 * n + 73 = omega arith in
        (l.front refl).goes_on ∙ ap lines_in (drop-drop 73 (73 * n) s ∙ ap (λ i. drop i s) (sym e))

    -- The rest is the line's words and what stands behind it.
    rest-next : n < length t₀ / 9 → each_line 9 (length t₀ / 9) (n + 1) (lines_in (drop (73 * n) s)) ≡ onwards s t₀ (words_of 9 (part s (73 * n) 72)) (n + 1)
    rest-next h =
        ap (each_line 9 (length t₀ / 9) (n + 1)) l.lines_are
        ∙ each-good 9 (length t₀ / 9) (n + 1) l.line l.later (sym l.told) (omega arith)
        ∙ rw ((l.front refl).bytes_are, behind-line) refl

    pub sofar-next : n < length t₀ / 9 → (t' : List ℕ) → t' ≡ over t (9 * n) (words_of 9 (part s (73 * n) 72)) → Sofar s t₀ t' (n + 1)
    sofar-next h t' e =
        let us = words_of 9 (part s (73 * n) 72) in
        let at : 0 + length f.ws ≡ 9 * n = omega (arith, f.long) in
        record {
          ws = f.ws ++ us;
          long = length-append f.ws us ∙ omega (arith, f.long, words-length 9 (part s (73 * n) 72));
          room = omega arith;
          begun = omega (arith, line-there);
          table =
              e
              ∙ ap (λ x. over x (9 * n) us) f.table
              ∙ subst (λ i. over (over t₀ 0 f.ws) i us ≡ over t₀ 0 (f.ws ++ us)) at (over-over t₀ 0 f.ws (omega (arith, f.long, f.room)) us);
          is =
              f.is
              ∙ ap (λ o. o >>= λ vs. got (f.ws ++ vs)) (rest-next h)
              ∙ then-more (each_line 9 (length t₀ / 9) (n + 1 + 1) (lines_in (drop (73 * (n + 1)) s))) us f.ws;
        }

-- ---- all lines, within the limit

-- What taking lines leaves after each answer: the words, or a table that is cleared.
all-taken : (o : Out (List ℕ)) (n : ℕ) (t t' : List ℕ) → got n ≡ records_of o → Put o t t' → t' ≡ words_after o t
all-taken (got ws) n t t' e p = p
all-taken (no m q) n t t' e p = absurd (got-no e)

all-cleared : (o : Out (List ℕ)) (m p : ℕ) (t t' : List ℕ) → no m p ≡ records_of o → Put o t t' → replicate (length t') 0 ≡ words_after o t
all-cleared (got ws) m p t t' e q = absurd (got-no (sym e))
all-cleared (no a b) m p t t' e q = ap (λ k. replicate k 0) q

-- What is promised of the answer, where it is known which one it is.
pub told : (s t t' : List ℕ) {r x : Result ℕ Refused} → r ≡ x → TakenIs s t (answer_out r) t' → TakenIs s t (answer_out x) t'
told s t t' e k = subst (λ y. TakenIs s t (answer_out y) t') e k

-- Lines that are all taken are as many as the records.
pub taken-many : (s t t' : List ℕ) (n : ℕ) → TakenIs s t (got n) t' → length (lines_in s) ≡ n
taken-many s t t' n k = go (whole s t) refl k.answer_is
  where
    go : (o : Out (List ℕ)) → whole s t ≡ o → got n ≡ records_of o → length (lines_in s) ≡ n
    go (got ws) e a = let counted : n ≡ length ws / 9 = cc in omega (arith, accepted-long 9 (length t / 9) (lines_in s) 1 ws e)
    go (no m p) e a = absurd (got-no a)

module _ (s t : List ℕ) where
  -- Over the limit (9) the table is cleared, whatever stood in it.
  pub too_many_lem : (t' : List ℕ) → record_limit < length (lines_in s) → length t' ≡ length t → ReadLinesIs s t (no 9 0) (replicate (length t') 0)
  unfolding lines_read
  too_many_lem t' h long =
      let e : reading_lines s t ≡ no 9 0 = rw (lt-leb (length (lines_in s)) record_limit h) refl in
      record { answer_is = ap records_of (sym e); table_is = ap (λ k. replicate k 0) long ∙ ap (λ o. words_after o t) (sym e) }

  module _ (h : length (lines_in s) ≤ record_limit) where
    read_taken : reading_lines s t ≡ whole s t
    unfolding lines_read
    read_taken = rw (le-leb (length (lines_in s)) record_limit h) refl

    pub read_all : (n : ℕ) (t' : List ℕ) → TakenIs s t (got n) t' → ReadLinesIs s t (got n) t'
    read_all n t' k = record {
      answer_is = k.answer_is ∙ ap records_of (sym read_taken);
      table_is = all-taken (whole s t) n t t' k.answer_is k.put ∙ ap (λ o. words_after o t) (sym read_taken);
    }

    pub read_no : (m p : ℕ) (t' : List ℕ) → TakenIs s t (no m p) t' → ReadLinesIs s t (no m p) (replicate (length t') 0)
    read_no m p t' k = record {
      answer_is = k.answer_is ∙ ap records_of (sym read_taken);
      table_is = all-cleared (whole s t) m p t t' k.answer_is k.put ∙ ap (λ o. words_after o t) (sym read_taken);
    }
