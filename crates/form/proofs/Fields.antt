-- Laws of the fields: when each is accepted, and what.
-- Assumes nothing.
use Prim.Native.Nat.{ℕ, zero, suc, ◌+◌, ◌*◌, ◌^◌, ◌≤◌, ◌<◌}
use mathlib.Core.Bool.{Bool, true, false, not, ◌&&◌, ◌||◌}
use mathlib.Core.List.{List, [], ◌∷◌}
use mathlib.Core.Path.{◌≡◌, refl, sym, ap, ◌∙◌}
use native.Mathlib.Omega.{arith}
use lib.ListN.{length, get_or, take, drop}
use lib.Dec.{T, leb, ltb, eqb, leb→le}
use borrow.Author.Tests.{lt-ltb, le-ltb, le-leb, lt-leb, leb-true, ltb-true, ne_eqb}
use Rattle.form.specs.Form.{Form}
use Rattle.form.specs.Answer.{Out, got, no, guard, ◌>>◌, ◌>>=◌}
use Rattle.form.specs.Spans.{part}
use Rattle.form.specs.Decoding.{Verdict, good, bad, verdict_in}
use Rattle.form.specs.Reading.{Span, readable, byte_at, bytes_at, number_at, string_at, array_at, count_at, leaf_at, ListHead, list_head_at, Entry, end, named, entry_at}
use Rattle.form.specs.Numbers.{number_in}
use Rattle.form.specs.Table.{width_of}
use Rattle.form.proofs.Answer.{got-no, bind-got, guard-got}
use Rattle.form.proofs.Picks.{and_left}

-- a span that lies in the document, at or after a place
pub record Within (doc : List ℕ) (at c : ℕ) (s : Span) : Type 0 where
  pub from : at ≤ s.start
  pub sum : s.start + s.size ≡ s.next
  pub to : s.next ≤ length doc
  pub count : s.count ≡ c

pub record Leaf (doc : List ℕ) (at : ℕ) (s : Span) : Type 0 where
  pub from : at ≤ s.start
  pub sum : s.start + s.size ≡ s.next
  pub to : s.next ≤ length doc
  pub count_lt : s.count < 2 ^ 31

-- a string in a chain that is accepted can be read
pub readable-got : {A : Type 0} (v : Verdict) (p : ℕ) (r : Out A) {a : A} → (readable v p >> r) ≡ got a → (v ≡ good) × (r ≡ got a)
readable-got good p r e = (refl, e)
readable-got (bad k) p r e = absurd (got-no (sym e))

module _ (doc : List ℕ) where
  pub byte-got : (at : ℕ) → at < length doc → byte_at doc at ≡ got (get_or doc at 0)
  unfolding byte_at
  byte-got at h = simp (lt-ltb at (length doc) h)

  pub byte-no : (at : ℕ) → length doc ≤ at → byte_at doc at ≡ no 1 at
  unfolding byte_at
  byte-no at h = simp (le-ltb at (length doc) h)

  pub bytes-got : (n count at : ℕ) → at + n ≤ length doc → bytes_at doc n count at ≡ got (record { start = at; size = n; count = count; next = at + n })
  unfolding bytes_at
  bytes-got n count at h = simp (le-leb (at + n) (length doc) h)

  pub bytes-no : (n count at : ℕ) → length doc < at + n → bytes_at doc n count at ≡ no 1 at
  unfolding bytes_at
  bytes-no n count at h = simp (lt-leb (at + n) (length doc) h)

  -- where the span of bytes lies
  pub bytes-within : (n count at : ℕ) {s : Span} → bytes_at doc n count at ≡ got s → Within doc at count s
  unfolding bytes_at
  bytes-within n count at {s} e =
      let g = guard-got (leb (at + n) (length doc)) 1 at (got (record { start = at; size = n; count = count; next = at + n })) e in
      let h : at + n ≤ length doc = leb-true (at + n) (length doc) g.0 in
      let f : record { start = at; size = n; count = count; next = at + n } ≡ s = cc in
      rw (← f) (record { from = omega arith; sum = refl; to = h; count = refl })

  within-from : {at at' c : ℕ} {s : Span} → at ≤ at' → Within doc at' c s → Within doc at c s
  within-from h w = record { from = omega arith; sum = w.sum; to = w.to; count = w.count }

  pub byte-in : (at : ℕ) {b : ℕ} → byte_at doc at ≡ got b → at < length doc
  unfolding byte_at
  byte-in at e = ltb-true at (length doc) (guard-got (ltb at (length doc)) 1 at (got (get_or doc at 0)) e).0

module _ (form : Form) (doc : List ℕ) where
  pub number-got : (n at : ℕ) → at + n ≤ length doc → number_at form doc n at ≡ got (number_in form.order (take n (drop at doc)))
  unfolding number_at
  number-got n at h = simp (le-leb (at + n) (length doc) h)

  pub number-no : (n at : ℕ) → length doc < at + n → number_at form doc n at ≡ no 1 at
  unfolding number_at
  number-no n at h = simp (lt-leb (at + n) (length doc) h)

  pub number-within : (n at : ℕ) {v : ℕ} → number_at form doc n at ≡ got v → at + n ≤ length doc
  unfolding number_at
  number-within n at e = leb-true (at + n) (length doc) (guard-got (leb (at + n) (length doc)) 1 at (got (number_in form.order (take n (drop at doc)))) e).0

  -- ---- strings and arrays

  pub string-no : (at : ℕ) {m p : ℕ} → number_at form doc 2 at ≡ no m p → string_at form doc at ≡ no m p
  unfolding string_at
  string-no at e = rw e refl

  -- a content that is not whole
  pub string-cut : (at n : ℕ) → number_at form doc 2 at ≡ got n → length doc < at + 2 + n → string_at form doc at ≡ no 1 (at + 2)
  unfolding string_at
  string-cut at n e h = rw (e, bytes-no doc n 0 (at + 2) h) refl

  module _ (at n : ℕ) (e : number_at form doc 2 at ≡ got n) (h : at + 2 + n ≤ length doc) where
    -- a content with a sequence that can't be read
    pub string-bad : {k : ℕ} → verdict_in form.strings (part doc (at + 2) n) ≡ bad k → string_at form doc at ≡ no 4 (at + 2 + k)
    unfolding string_at
    string-bad w = rw (e, bytes-got doc n 0 (at + 2) h, w) refl

    pub string-got : verdict_in form.strings (part doc (at + 2) n) ≡ good → string_at form doc at ≡ got (record { start = at + 2; size = n; count = 0; next = at + 2 + n })
    unfolding string_at
    string-got w = rw (e, bytes-got doc n 0 (at + 2) h, w) refl

  -- what an accepted string says: its length, where it lies, and that it is well formed
  pub record Worded (at : ℕ) (s : Span) : Type 0 where
    pub n : ℕ
    pub prefix : number_at form doc 2 at ≡ got n
    pub span : bytes_at doc n 0 (at + 2) ≡ got s
    pub fine : verdict_in form.strings (part doc (at + 2) n) ≡ good

  pub string-worded : (at : ℕ) {s : Span} → string_at form doc at ≡ got s → Worded at s
  unfolding string_at
  string-worded at {s} e =
      let b = bind-got (number_at form doc 2 at) rest e in
      let c = bind-got (bytes_at doc b.0 0 (at + 2)) (last b.0) b.2 in
      let g = readable-got (verdict_in form.strings (part doc (at + 2) b.0)) (at + 2) (got c.0) c.2 in
      let f : c.0 ≡ s = cc g.1 in
      record { n = b.0; prefix = b.1; span = c.1 ∙ ap got f; fine = g.0 }
    where
      last : ℕ → Span → Out Span
      last n t = readable (verdict_in form.strings (part doc (at + 2) n)) (at + 2) >> got t

      rest : ℕ → Out Span
      rest n = bytes_at doc n 0 (at + 2) >>= last n

  pub string-within : (at : ℕ) {s : Span} → string_at form doc at ≡ got s → Within doc (at + 2) 0 s
  string-within at e = let w = string-worded at e in bytes-within doc w.n 0 (at + 2) w.span

  pub array-no : (w at : ℕ) {m p : ℕ} → number_at form doc 4 at ≡ no m p → array_at form doc w at ≡ no m p
  unfolding array_at count_at
  array-no w at e = rw e refl

  pub array-below : (w at n : ℕ) → number_at form doc 4 at ≡ got n → 2 ^ 31 ≤ n → array_at form doc w at ≡ no 5 at
  unfolding array_at count_at
  array-below w at n e h = rw (e, le-ltb n (2 ^ 31) h) refl

  pub array-got : (w at n : ℕ) → number_at form doc 4 at ≡ got n → n < 2 ^ 31 → array_at form doc w at ≡ bytes_at doc (n * w) n (at + 4)
  unfolding array_at count_at
  array-got w at n e h = rw (e, lt-ltb n (2 ^ 31) h) refl

  pub leaf-fixed : (kind at : ℕ) → kind < 7 → leaf_at form doc kind at ≡ bytes_at doc (width_of kind) 0 at
  unfolding leaf_at
  leaf-fixed kind at h = rw (leaf_at, lt-ltb kind 7 h) refl

  pub leaf-string : (kind at : ℕ) → kind ≡ 8 → leaf_at form doc kind at ≡ string_at form doc at
  unfolding leaf_at
  leaf-string kind at h = rw h refl

  pub leaf-array : (kind at : ℕ) → 7 ≤ kind → (kind ≡ 8 → ⊥) → leaf_at form doc kind at ≡ array_at form doc (width_of kind) at
  unfolding leaf_at
  leaf-array kind at h l = rw (leaf_at, le-ltb kind 7 h, ne_eqb kind 8 l) refl

  -- where a leaf's span lies; its count is an i32
  pub leaf-within : (kind at : ℕ) {s : Span} → leaf_at form doc kind at ≡ got s → Leaf doc at s
  unfolding leaf_at array_at count_at
  leaf-within kind at {s} e = go (ltb kind 7) (eqb kind 8) e
    where
      leaf : {at' c : ℕ} → at ≤ at' → c < 2 ^ 31 → Within doc at' c s → Leaf doc at s
      leaf h l w = record { from = omega arith; sum = w.sum; to = w.to; count_lt = omega (arith, w.count) }

      go : (a b : Bool) → elim a [ true ↦ bytes_at doc (width_of kind) 0 at | false ↦ elim b [ true ↦ string_at form doc at | false ↦ array_at form doc (width_of kind) at ] ] ≡ got s → Leaf doc at s
      go true b f = leaf (omega arith) (omega arith) (bytes-within doc (width_of kind) 0 at f)
      go false true f = leaf (omega arith) (omega arith) (string-within at f)
      go false false f =
          let x = bind-got (count_at form doc at) (λ n. bytes_at doc (n * width_of kind) n (at + 4)) f in
          let y = bind-got (number_at form doc 4 at) (λ n. guard (ltb n (2 ^ 31)) 5 at >> got n) x.1 in
          let g = guard-got (ltb y.0 (2 ^ 31)) 5 at (got y.0) y.2 in
          let i : y.0 ≡ x.0 = cc g.1 in
          leaf (omega arith) (omega (arith, ltb-true y.0 (2 ^ 31) g.0)) (bytes-within doc (x.0 * width_of kind) x.0 (at + 4) x.2)

  -- ---- a list's head, and an entry

  pub list-head-end : (at : ℕ) → length doc ≤ at → list_head_at form doc at ≡ no 1 at
  unfolding list_head_at
  list-head-end at h = rw (byte-no doc at h) refl

  pub entry-end : (at : ℕ) → length doc ≤ at → entry_at form doc at ≡ no 1 at
  unfolding entry_at
  entry-end at h = rw (byte-no doc at h) refl

  module _ (at : ℕ) (h : at < length doc) where
    pub list-head-no : {m p : ℕ} → number_at form doc 4 (at + 1) ≡ no m p → list_head_at form doc at ≡ no m p
    unfolding list_head_at
    list-head-no e = rw (byte-got doc at h, e) refl

    module _ {n : ℕ} (e : number_at form doc 4 (at + 1) ≡ got n) where
      pub list-head-kind : 12 < get_or doc at 0 → list_head_at form doc at ≡ no 3 at
      unfolding list_head_at
      list-head-kind l = rw (byte-got doc at h, e, lt-leb (get_or doc at 0) 12 l) refl

      pub list-head-empty : get_or doc at 0 ≤ 12 → n ≡ 0 → list_head_at form doc at ≡ got (record { kind = 0; count = 0 })
      unfolding list_head_at
      list-head-empty l z = rw (byte-got doc at h, e, le-leb (get_or doc at 0) 12 l, z) (any (not (eqb (get_or doc at 0) 0)))
        where
          any : (b : Bool) → ◌≡◌ {A = Out ListHead} ((guard (b || true) 3 at) >> got (record { kind = 0; count = 0 })) (got (record { kind = 0; count = 0 }))
          any true = refl
          any false = refl

      pub list-head-zero : get_or doc at 0 ≡ 0 → (n ≡ 0 → ⊥) → list_head_at form doc at ≡ no 3 at
      unfolding list_head_at
      list-head-zero z l = rw (byte-got doc at h, e, z, ne_eqb n 0 l) refl

      module _ (l : get_or doc at 0 ≤ 12) (k : get_or doc at 0 ≡ 0 → ⊥) (z : n ≡ 0 → ⊥) where
        pub list-head-below : 2 ^ 31 ≤ n → list_head_at form doc at ≡ no 5 (at + 1)
        unfolding list_head_at
        list-head-below b = rw (byte-got doc at h, e, le-leb (get_or doc at 0) 12 l, ne_eqb (get_or doc at 0) 0 k, le-ltb n (2 ^ 31) b) refl

        pub list-head-got : n < 2 ^ 31 → list_head_at form doc at ≡ got (record { kind = get_or doc at 0; count = n })
        unfolding list_head_at
        list-head-got b = rw (byte-got doc at h, e, le-leb (get_or doc at 0) 12 l, ne_eqb (get_or doc at 0) 0 k, lt-ltb n (2 ^ 31) b, ne_eqb n 0 z) refl

    pub entry-last : get_or doc at 0 ≡ 0 → entry_at form doc at ≡ got end
    unfolding entry_at
    entry-last z = rw (byte-got doc at h, z) refl

    module _ (k : get_or doc at 0 ≡ 0 → ⊥) where
      pub entry-no : {m p : ℕ} → string_at form doc (at + 1) ≡ no m p → entry_at form doc at ≡ no m p
      unfolding entry_at
      entry-no e = rw (byte-got doc at h, ◌>>=◌, ne_eqb (get_or doc at 0) 0 k, e) refl

      pub entry-kind : {s : Span} → string_at form doc (at + 1) ≡ got s → 12 < get_or doc at 0 → entry_at form doc at ≡ no 3 at
      unfolding entry_at
      entry-kind e l = rw (byte-got doc at h, ◌>>=◌, ne_eqb (get_or doc at 0) 0 k, e, lt-leb (get_or doc at 0) 12 l) refl

      pub entry-got : {s : Span} → string_at form doc (at + 1) ≡ got s → get_or doc at 0 ≤ 12
          → entry_at form doc at ≡ got (named (get_or doc at 0) (record { start = s.start; size = s.size; count = 0; next = s.next }))
      unfolding entry_at
      entry-got {s} e l =
          rw (byte-got doc at h, ◌>>=◌, ne_eqb (get_or doc at 0) 0 k, e, le-leb (get_or doc at 0) 12 l)
          (ap (λ c. got (named (get_or doc at 0) (record { start = s.start; size = s.size; count = c; next = s.next }))) (string-within (at + 1) e).count)

  -- ---- what an accepted head says

  pub entry_in : (at : ℕ) {e : Entry} → entry_at form doc at ≡ got e → at < length doc
  unfolding entry_at
  entry_in at f =
      byte-in doc at (bind-got (byte_at doc at) (λ k. elim (eqb k 0) [ true ↦ got end | false ↦ string_at form doc (at + 1) >>= (λ n. guard (leb k 12) 3 at >> got (named k n)) ]) f).1

  -- an entry's kind is known, and its name lies past the id byte and the length
  pub entry-within : (at : ℕ) {k : ℕ} {s : Span} → entry_at form doc at ≡ got (named k s) → (k ≤ 12) × Within doc (at + 3) 0 s
  unfolding entry_at
  entry-within at {k} {s} e = go (eqb b.0 0) b.2
    where
      rest : ℕ → Bool → Out Entry
      rest c t = elim t [ true ↦ got end | false ↦ string_at form doc (at + 1) >>= (λ n. guard (leb c 12) 3 at >> got (named c n)) ]

      b : (c : ℕ) × (byte_at doc at ≡ got c) × (rest c (eqb c 0) ≡ got (named k s))
      b = bind-got (byte_at doc at) (λ c. rest c (eqb c 0)) e

      go : (t : Bool) → rest b.0 t ≡ got (named k s) → (k ≤ 12) × Within doc (at + 3) 0 s
      go true f = let z : ◌≡◌ {A = ℕ} 0 1 = cc in omega arith
      go false f =
          let n = bind-got (string_at form doc (at + 1)) (λ n. guard (leb b.0 12) 3 at >> got (named b.0 n)) f in
          let g = guard-got (leb b.0 12) 3 at (got (named b.0 n.0)) n.2 in
          let kb : b.0 ≡ k = cc g.1 in
          let sb : n.0 ≡ s = cc g.1 in
          let w = string-within (at + 1) n.1 in
          (omega (arith, leb-true b.0 12 g.0), rw (← sb) (within-from doc (omega arith) w))

  -- a list's head is five bytes, its kind is known and its count is an i32
  pub list-head-within : (at : ℕ) {h : ListHead} → list_head_at form doc at ≡ got h → (at + 5 ≤ length doc) × (h.kind ≤ 12) × (h.count < 2 ^ 31)
  unfolding list_head_at
  list-head-within at {h} e =
      let b = bind-got (byte_at doc at) (λ k. number_at form doc 4 (at + 1) >>= after k) e in
      let n = bind-got (number_at form doc 4 (at + 1)) (after b.0) b.2 in
      let g = guard-got (known b.0 n.0) 3 at (guard (ltb n.0 (2 ^ 31)) 5 (at + 1) >> got (head b.0 n.0)) n.2 in
      let f = guard-got (ltb n.0 (2 ^ 31)) 5 (at + 1) (got (head b.0 n.0)) g.1 in
      let eq : head b.0 n.0 ≡ h = cc f.1 in
      let w = number-within 4 (at + 1) n.1 in
      rw (← eq) (
        omega arith,
        pick (eqb n.0 0) b.0 (leb-true b.0 12 (and_left (leb b.0 12) (not (eqb b.0 0) || eqb n.0 0) g.0)),
        ltb-true n.0 (2 ^ 31) f.0,
      )
    where
      known : ℕ → ℕ → Bool
      known k n = leb k 12 && (not (eqb k 0) || eqb n 0)

      head : ℕ → ℕ → ListHead
      head k n = record { kind = elim (eqb n 0) [ true ↦ 0 | false ↦ k ]; count = n }

      after : ℕ → ℕ → Out ListHead
      after k n = guard (known k n) 3 at >> (guard (ltb n (2 ^ 31)) 5 (at + 1) >> got (head k n))

      pick : (t : Bool) (k : ℕ) → k ≤ 12 → elim t [ true ↦ 0 | false ↦ k ] ≤ 12
      pick true k l = omega arith
      pick false k l = l

-- a bound on every entry of a table, by a test over the table
abbrev all_le : ℕ → List ℕ → Type 0
all_le b [] = Unit {0}
all_le b (x ∷ xs) = T (leb x b) × all_le b xs

all-le : (b : ℕ) (xs : List ℕ) → all_le b xs → (k : ℕ) → get_or xs k 0 ≤ b
all-le b [] h k = omega arith
all-le b (x ∷ xs) h zero = leb→le x b h.0
all-le b (x ∷ xs) h (suc k) = all-le b xs h.1 k

pub width-le : (k : ℕ) → width_of k ≤ 8
unfolding width_of
width-le k = all-le 8 (0 ∷ 1 ∷ 2 ∷ 4 ∷ 8 ∷ 4 ∷ 8 ∷ 1 ∷ 0 ∷ 0 ∷ 0 ∷ 4 ∷ 8 ∷ []) (tt, (tt, (tt, (tt, (tt, (tt, (tt, (tt, (tt, (tt, (tt, (tt, (tt, tt))))))))))))) k
