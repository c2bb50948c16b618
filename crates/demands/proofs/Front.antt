-- A document and one that goes on behind it: what lies in the first is read alike in both.
-- Assumes nothing.
use Prim.Native.Nat.{ℕ, ◌+◌, ◌^◌, ◌≤◌, ◌<◌}
use mathlib.Core.Bool.{Bool, true, false, not, ◌&&◌, ◌||◌}
use mathlib.Core.List.{List, ◌++◌}
use mathlib.Core.Path.{◌≡◌, refl, sym, ap, ◌∙◌}
use native.Mathlib.Omega.{arith}
use lib.Dec.{leb, ltb, eqb}
use borrow.Author.Tests.{leb-true, ltb-true, ltb-false}
use lib.ListN.{length, get_or, drop, length-append, length-drop, get_or-append, get_or-eq_default}
use lib.Seq.{take-append-le, drop-append-le}
use Rattle.form.specs.Form.{Form}
use Rattle.form.specs.Answer.{Out, got, guard, ◌>>=◌, ◌>>◌}
use Rattle.form.specs.Spans.{part}
use Rattle.form.specs.Reading.{Span, Entry, end, named, byte_at, number_at, bytes_at, string_at, entry_at, list_head_at}
use Rattle.form.proofs.Answer.{bind-got, guard-got, got-no}
use Rattle.form.proofs.Fields.{byte-got, number-got, number-within, byte-in, string-worded, string-got, entry-within}
use Rattle.demands.specs.Reading.{Bytes}
use Rattle.demands.proofs.Sits.{Sits}

bytes-size : (doc : List ℕ) (n at : ℕ) {s : Span} → bytes_at doc n 0 at ≡ got s → (at + n ≤ length doc) × (s ≡ record { start = at; size = n; count = 0; next = at + n })
unfolding bytes_at
bytes-size doc n at {s} e = go (leb (at + n) (length doc)) refl e
  where
    go : (b : Bool) → leb (at + n) (length doc) ≡ b → (guard b 1 at >> got (record { start = at; size = n; count = 0; next = at + n })) ≡ got s
        → (at + n ≤ length doc) × (s ≡ record { start = at; size = n; count = 0; next = at + n })
    go true t f = (leb-true (at + n) (length doc) t, cc)
    go false t f = absurd (got-no (sym f))

module _ (doc rest : List ℕ) where
  longer : length (doc ++ rest) ≡ length doc + length rest
  longer = length-append doc rest

  pub part-front : (at n : ℕ) → at + n ≤ length doc → part (doc ++ rest) at n ≡ part doc at n
  part-front at n h = rw (drop-append-le at doc rest (omega arith)) (take-append-le n (drop at doc) rest (omega (arith, length-drop at doc)))

  pub sits_on : {at : ℕ} {bs : List ℕ} → Sits doc at bs → Sits (doc ++ rest) at bs
  sits_on {at} {bs} s = record { is = part-front at (length bs) s.to ∙ s.is; to = omega (arith, s.to, longer) }

  pub sits-back : {at : ℕ} {bs : List ℕ} → at + length bs ≤ length doc → Sits (doc ++ rest) at bs → Sits doc at bs
  sits-back {at} {bs} h s = record { is = sym (part-front at (length bs) h) ∙ s.is; to = h }

  pub byte-front : (at : ℕ) → at < length doc → byte_at (doc ++ rest) at ≡ byte_at doc at
  byte-front at h = byte-got (doc ++ rest) at (omega (arith, longer)) ∙ ap got (get_or-append doc rest 0 at h) ∙ sym (byte-got doc at h)

  -- bytes of the longer are bytes of the first
  pub bytes-front : Bytes (doc ++ rest) → Bytes doc
  bytes-front b i = go (ltb i (length doc)) refl
    where
      go : (t : Bool) → ltb i (length doc) ≡ t → get_or doc i 0 < 256
      go true l = rw (← get_or-append doc rest 0 i (ltb-true i (length doc) l)) (b i)
      go false l = rw (get_or-eq_default doc 0 {n = i} (ltb-false i (length doc) l)) (omega arith)

module _ (form : Form) (doc rest : List ℕ) where
  pub number-front : (n at : ℕ) → at + n ≤ length doc → number_at form (doc ++ rest) n at ≡ number_at form doc n at
  number-front n at h = number-got form (doc ++ rest) n at (omega (arith, longer doc rest)) ∙ rw (part-front doc rest at n h) (sym (number-got form doc n at h))

  -- a string that lies in the first
  pub string-on : (at : ℕ) {s : Span} → string_at form doc at ≡ got s → string_at form (doc ++ rest) at ≡ got s
  string-on at {s} e =
      let w = string-worded form doc at e in
      let n = w.n in
      let z = bytes-size doc n (at + 2) w.span in
      string-got form (doc ++ rest) at n (number-front 2 at (number-within form doc 2 at w.prefix) ∙ w.prefix)
      (omega (arith, longer doc rest, z.0)) (rw (part-front doc rest (at + 2) n z.0) w.fine)
      ∙ ap got (sym z.1)

  pub string-back : (at : ℕ) {s : Span} → string_at form (doc ++ rest) at ≡ got s → s.next ≤ length doc → string_at form doc at ≡ got s
  string-back at {s} e h =
      let w = string-worded form (doc ++ rest) at e in
      let n = w.n in
      let z = bytes-size (doc ++ rest) n (at + 2) w.span in
      let q : s.next ≡ at + 2 + n = ap (λ (s : Span). s.next) z.1 in
      let l : at + 2 + n ≤ length doc = omega arith in
      string-got form doc at n (sym (number-front 2 at (omega arith)) ∙ w.prefix) l (rw (← part-front doc rest (at + 2) n l) w.fine)
      ∙ ap got (sym z.1)

  -- ---- heads

  -- an entry's head, from its string; b says whether its id is 0
  entry-by : (doc : List ℕ) (at k : ℕ) (b : Bool) → Out Entry
  entry-by doc at k b = elim b [ true ↦ got end | false ↦ string_at form doc (at + 1) >>= (λ s. guard (leb k 12) 3 at >> got (named k s)) ]

  entry-is : (doc : List ℕ) (at k : ℕ) → byte_at doc at ≡ got k → entry_at form doc at ≡ entry-by doc at k (eqb k 0)
  unfolding entry_at entry-by
  entry-is doc at k e = rw e refl

  entry-parts : (doc : List ℕ) (at : ℕ) {e : Entry} → entry_at form doc at ≡ got e → (k : ℕ) × (byte_at doc at ≡ got k) × (entry-by doc at k (eqb k 0) ≡ got e)
  unfolding entry_at entry-by
  entry-parts doc at e = bind-got (byte_at doc at) (λ k. entry-by doc at k (eqb k 0)) e

  pub entry-on : (at : ℕ) {kind : ℕ} {s : Span} → entry_at form doc at ≡ got (named kind s) → entry_at form (doc ++ rest) at ≡ got (named kind s)
  unfolding entry-by
  entry-on at {kind} {s} e = go (entry-parts doc at e)
    where
      from : (k : ℕ) (b : Bool) → entry-by doc at k b ≡ got (named kind s) → entry-by (doc ++ rest) at k b ≡ got (named kind s)
      from k true f = f
      from k false f =
          let g = bind-got (string_at form doc (at + 1)) (λ s. guard (leb k 12) 3 at >> got (named k s)) f in
          ap (λ o. o >>= (λ s. guard (leb k 12) 3 at >> got (named k s))) (string-on (at + 1) g.1) ∙ g.2

      go : (k : ℕ) × (byte_at doc at ≡ got k) × (entry-by doc at k (eqb k 0) ≡ got (named kind s)) → entry_at form (doc ++ rest) at ≡ got (named kind s)
      go (k, b, f) = entry-is (doc ++ rest) at k (byte-front doc rest at (byte-in doc at b) ∙ b) ∙ from k (eqb k 0) f

  pub entry-back : (at : ℕ) {kind : ℕ} {s : Span} → entry_at form (doc ++ rest) at ≡ got (named kind s) → s.next ≤ length doc → entry_at form doc at ≡ got (named kind s)
  unfolding entry-by
  entry-back at {kind} {s} e h = go (entry-parts (doc ++ rest) at e)
    where
      from : (k : ℕ) (b : Bool) → entry-by (doc ++ rest) at k b ≡ got (named kind s) → entry-by doc at k b ≡ got (named kind s)
      from k true f = f
      from k false f = last (bind-got (string_at form (doc ++ rest) (at + 1)) (λ s. guard (leb k 12) 3 at >> got (named k s)) f)
        where
          last : (t : Span) × (string_at form (doc ++ rest) (at + 1) ≡ got t) × ((guard (leb k 12) 3 at >> got (named k t)) ≡ got (named kind s))
              → (string_at form doc (at + 1) >>= (λ s. guard (leb k 12) 3 at >> got (named k s))) ≡ got (named kind s)
          last (t, a, g) =
              let q = guard-got (leb k 12) 3 at (got (named k t)) g in
              let same : t ≡ s = cc q.1 in
              ap (λ o. o >>= (λ s. guard (leb k 12) 3 at >> got (named k s))) (string-back (at + 1) a (rw same h)) ∙ g

      go : (k : ℕ) × (byte_at (doc ++ rest) at ≡ got k) × (entry-by (doc ++ rest) at k (eqb k 0) ≡ got (named kind s)) → entry_at form doc at ≡ got (named kind s)
      go (k, b, f) =
          let w = entry-within form (doc ++ rest) at e in
          entry-is doc at k (sym (byte-front doc rest at (omega (arith, w.1.from, w.1.sum))) ∙ b) ∙ from k (eqb k 0) f

  -- a list's head
  pub head-front : (at : ℕ) → at + 5 ≤ length doc → list_head_at form (doc ++ rest) at ≡ list_head_at form doc at
  unfolding list_head_at
  head-front at h = λ i. byte-front doc rest at (omega arith) i >>= (λ k. number-front 4 (at + 1) (omega arith) i
      >>= (λ n. guard (leb k 12 && (not (eqb k 0) || eqb n 0)) 3 at >> (guard (ltb n (2 ^ 31)) 5 (at + 1) >> got (record { kind = elim (eqb n 0) [ true ↦ 0 | false ↦ k ]; count = n }))))
