-- Tags that hold no tags: what is read is laid out, and what is laid out is read, with the value that the record stands for.
-- Assumes nothing.
use Prim.Native.Nat.{ℕ, ◌+◌, ◌*◌, ◌^◌, ◌≤◌, ◌<◌}
use mathlib.Core.List.{List, [], ◌∷◌, ◌++◌}
use mathlib.Core.Bool.{false}
use mathlib.Core.Path.{◌≡◌, refl, sym, ap, ◌∙◌}
use native.Mathlib.Omega.{arith}
use lib.IntN.{ℤ}
use lib.ListN.{length, length-append}
use Rattle.form.specs.Form.{Form}
use Rattle.form.specs.Answer.{got}
use Rattle.form.specs.Spans.{part}
use Rattle.form.specs.Numbers.{number_in, bytes_in, values_in, signed_of, bits_of, FitsIn}
use Rattle.form.specs.Tree.{Tag, byte, short, int, long, float, double, byte_array, string, list, compound, int_array, long_array, nil, ended, kind_of, tag_count, depth, AllFit, Array, ValidIn, ValidBy}
use Rattle.form.specs.Layout.{int_bytes_in, string_bytes_in, ints_bytes_in, array_bytes_in, PayloadIn}
use Rattle.form.specs.Table.{Head, width_of, holds, ints_at, value_by}
use Rattle.form.specs.Reading.{Span, bytes_at, string_at, count_at, array_at, leaf_at}
use Rattle.form.proofs.Orders.{bytes-length, number-bytes, value-bytes}
use Rattle.form.proofs.EachKind.{by_kind}
use Rattle.form.proofs.Values.{int-back, int-fits, ints-back, ints-fit, ints-count}
use Rattle.form.proofs.Spans.{part_length}
use Rattle.form.proofs.Fields.{bytes-got, array-got}
use Rattle.form.proofs.Digits.{bits_below, signed-bits}
use Rattle.demands.specs.Reading.{Bytes}
use Rattle.demands.proofs.Sits.{Sits, sits-first, sits-rest, sits-join, sits-part}
use Rattle.form.proofs.Answers.{Answers, Accepted, bind-answers, weaker, got-answers}
use Rattle.demands.proofs.Answers.{Numbered}
use Rattle.demands.proofs.Fields.{StringLaw, string-length, bytes-sound, count-sound, string-sound, number_read, string-content, string-read}

-- the record of a leaf
abbrev pub leaf_head : ℕ → ℕ → ℕ → Span → Head
leaf_head kind name len s =
    record { kind = kind; name = name; name_length = len; start = s.start; size = s.size; count = s.count; list_kind = 0 }

-- ---- the elements of an array

pub ints-length : (form : Form) (w : ℕ) (vs : List ℤ) → length (ints_bytes_in form w vs) ≡ length vs * w
unfolding ints_bytes_in
ints-length form w [] = omega arith
ints-length form w (v ∷ vs) =
    simp length-append (omega (arith, ints-length form w vs, bytes-length form.order w (bits_of w v)))

module _ (form : Form) (doc : List ℕ) where
  int-read : (at w : ℕ) (v : ℤ) → FitsIn w v → Sits doc at (int_bytes_in form w v) → signed_of w (number_in form.order (part doc at w)) ≡ v
  int-read at w v f s =
      let e : part doc at w ≡ int_bytes_in form w v = rw (bytes-length form.order w (bits_of w v)) at s.is in
      ap (λ l. signed_of w (number_in form.order l)) e ∙ ap (signed_of w) (number-bytes form.order w (bits_of w v) (bits_below w v f)) ∙ signed-bits w v f

  ints-read : (at w : ℕ) (vs : List ℤ) → AllFit w vs → Sits doc at (ints_bytes_in form w vs) → ints_at form doc w (length vs) at ≡ vs
  unfolding AllFit ints_bytes_in ints_at
  ints-read at w [] f s = refl
  ints-read at w (v ∷ vs) f s =
      let r = rw (bytes-length form.order w (bits_of w v)) at (sits-rest (int_bytes_in form w v) (ints_bytes_in form w vs) s) in
      (λ i. int-read at w v f.0 (sits-first (int_bytes_in form w v) (ints_bytes_in form w vs) s) i ∷ ints-read (at + w) w vs f.1 r i)

  -- ---- what is laid out is read

  -- a span that ends where the layout ends, and whose record stands for the tag
  abbrev pub ReadAs : ℕ → List ℕ → Tag → Span → Type 0
  ReadAs at bs t s = (s.next ≡ at + length bs) × ((name len : ℕ) → value_by form doc (leaf_head (kind_of t) name len s) nil ended ≡ t)

  array-read : (at w : ℕ) (vs : List ℤ) (bs : List ℕ) → Array w vs → bs ≡ array_bytes_in form w vs → Sits doc at bs
      → (array_at form doc w at ≡ got (record { start = at + 4; size = length vs * w; count = length vs; next = at + 4 + length vs * w }))
      × (at + 4 + length vs * w ≡ at + length bs) × (ints_at form doc w (length vs) (at + 4) ≡ vs)
  array-read at w vs bs a e s =
      let s' : Sits doc at (bytes_in form.order 4 (length vs) ++ ints_bytes_in form w vs) = rw e at s in
      let r : Sits doc (at + 4) (ints_bytes_in form w vs) = rw (bytes-length form.order 4 (length vs)) at (sits-rest (bytes_in form.order 4 (length vs)) (ints_bytes_in form w vs) s') in
      let n = number_read form doc 4 (length vs) (omega (arith, a.1)) (sits-first (bytes_in form.order 4 (length vs)) (ints_bytes_in form w vs) s') in (
        array-got form doc w at (length vs) n a.1 ∙ bytes-got doc (length vs * w) (length vs) (at + 4) (omega (arith, r.to, ints-length form w vs)),
        rw e (omega (arith, ints-length form w vs, length-append (bytes_in form.order 4 (length vs)) (ints_bytes_in form w vs), bytes-length form.order 4 (length vs))),
        ints-read (at + 4) w vs a.0 r,
      )

  module _ (at : ℕ) (bs : List ℕ) (s : Sits doc at bs) where
    fixed : (w v : ℕ) → bs ≡ bytes_in form.order w v → (bytes_at doc w 0 at ≡ got (record { start = at; size = w; count = 0; next = at + w })) × (at + w ≡ at + length bs)
    fixed w v e = let l = ap length e ∙ bytes-length form.order w v in (bytes-got doc w 0 at (omega (arith, s.to, l)), omega (arith, l))

    float_read : (w v : ℕ) → v < values_in w → bs ≡ bytes_in form.order w v → number_in form.order (part doc at w) ≡ v
    float_read w v h e =
        let l = ap length e ∙ bytes-length form.order w v in
        ap (number_in form.order) (rw l at s.is ∙ e) ∙ number-bytes form.order w v h

    pub leaf-read : StringLaw form → (t : Tag) → holds (kind_of t) ≡ false → PayloadIn form t bs → ValidIn form t → Answers Accepted (ReadAs at bs t) (leaf_at form doc (kind_of t) at)
    unfolding leaf_at PayloadIn ValidBy value_by kind_of width_of
    leaf-read wf (byte v) h p f = let x = fixed 1 (bits_of 1 v) p in rw x.0 (got-answers (x.1, λ name len. ap byte (int-read at 1 v f (rw p at s))))
    leaf-read wf (short v) h p f = let x = fixed 2 (bits_of 2 v) p in rw x.0 (got-answers (x.1, λ name len. ap short (int-read at 2 v f (rw p at s))))
    leaf-read wf (int v) h p f = let x = fixed 4 (bits_of 4 v) p in rw x.0 (got-answers (x.1, λ name len. ap int (int-read at 4 v f (rw p at s))))
    leaf-read wf (long v) h p f = let x = fixed 8 (bits_of 8 v) p in rw x.0 (got-answers (x.1, λ name len. ap long (int-read at 8 v f (rw p at s))))
    leaf-read wf (float b) h p f = let x = fixed 4 b p in rw x.0 (got-answers (x.1, λ name len. ap float (float_read 4 b f p)))
    leaf-read wf (double b) h p f = let x = fixed 8 b p in rw x.0 (got-answers (x.1, λ name len. ap double (float_read 8 b f p)))
    leaf-read wf (byte_array vs) h p f = let x = array-read at 1 vs bs f p s in rw x.0 (got-answers (x.1, λ name len. ap byte_array x.2))
    leaf-read wf (string xs) h p f =
        let s' : Sits doc at (string_bytes_in form xs) = rw p at s in
        rw (string-read form doc wf xs f s') (got-answers (rw p (omega (arith, string-length form xs)), λ name len. ap string (string-content form doc xs s').is))
    leaf-read wf (list ts) h p f = let z : ◌≡◌ {A = ℕ} 0 1 = cc in absurd (omega arith)
    leaf-read wf (compound es) h p f = let z : ◌≡◌ {A = ℕ} 0 1 = cc in absurd (omega arith)
    leaf-read wf (int_array vs) h p f = let x = array-read at 4 vs bs f p s in rw x.0 (got-answers (x.1, λ name len. ap int_array x.2))
    leaf-read wf (long_array vs) h p f = let x = array-read at 8 vs bs f p s in rw x.0 (got-answers (x.1, λ name len. ap long_array x.2))

  -- ---- what is read is laid out

  -- a tag of a kind that holds no tags, and its layout
  pub record Leaf (kind : ℕ) (bs : List ℕ) (t : Tag) : Type 0 where
    pub kind_is : kind_of t ≡ kind
    pub lays : PayloadIn form t bs
    pub valid : ValidIn form t
    pub flat : depth t ≡ 0
    pub alone : tag_count t ≡ 1

  -- a span that was read: the layout there, and the tag that its record stands for
  pub record LaidAs (kind at : ℕ) (s : Span) : Type 0 where
    pub bs : List ℕ
    pub sits : Sits doc at bs
    pub next : s.next ≡ at + length bs
    pub is : (name len : ℕ) → Leaf kind bs (value_by form doc (leaf_head kind name len s) nil ended)

  module _ (bytes : Bytes doc) where
    int-laid : (at w : ℕ) → 0 < w → at + w ≤ length doc
        → (part doc at w ≡ int_bytes_in form w (signed_of w (number_in form.order (part doc at w)))) × FitsIn w (signed_of w (number_in form.order (part doc at w)))
    int-laid at w p l = (sym (int-back form doc bytes w at l), int-fits form doc bytes w at p l)

    ints-laid : (w : ℕ) → 0 < w → (n at : ℕ) → at + n * w ≤ length doc
        → (part doc at (n * w) ≡ ints_bytes_in form w (ints_at form doc w n at)) × AllFit w (ints_at form doc w n at) × (length (ints_at form doc w n at) ≡ n)
    ints-laid w p n at l = (sym (ints-back form doc bytes w n at l), ints-fit form doc bytes w n at p l, ints-count form doc w n at)

    -- a leaf of a fixed width
    fixed-sound : (kind at w : ℕ)
        → ((name len : ℕ) → at + w ≤ length doc
        → Leaf kind (part doc at w) (value_by form doc (leaf_head kind name len (record { start = at; size = w; count = 0; next = at + w })) nil ended))
        → Answers (Numbered form doc) (LaidAs kind at) (bytes_at doc w 0 at)
    fixed-sound kind at w f =
        weaker (bytes_at doc w 0 at) (bytes-sound form doc w 0 at)
        (λ s b. rw b.1 (record { bs = part doc at w; sits = sits-part doc at w b.0; next = omega (arith, part_length doc at w b.0); is = λ name len. f name len b.0 }))

    -- an array
    array-sound : (kind at w : ℕ) → 0 < w
        → ((name len n : ℕ) (bs : List ℕ) → Array w (ints_at form doc w n (at + 4)) → bs ≡ array_bytes_in form w (ints_at form doc w n (at + 4))
        → Leaf kind bs (value_by form doc (leaf_head kind name len (record { start = at + 4; size = n * w; count = n; next = at + 4 + n * w })) nil ended))
        → Answers (Numbered form doc) (LaidAs kind at) (array_at form doc w at)
    unfolding array_at
    array-sound kind at w p f =
        bind-answers (count_at form doc at) _ (count-sound form doc bytes at)
        (λ n c. weaker (bytes_at doc (n * w) n (at + 4)) (bytes-sound form doc (n * w) n (at + 4)) (λ s b. rw b.1 (laid n c.0 c.1 b.0)))
      where
        laid : (n : ℕ) → n < 2 ^ 31 → Sits doc at (bytes_in form.order 4 n) → at + 4 + n * w ≤ length doc
            → LaidAs kind at (record { start = at + 4; size = n * w; count = n; next = at + 4 + n * w })
        laid n h c l =
            let i = ints-laid w p n (at + 4) l in
            let body = part doc (at + 4) (n * w) in
            let k = part_length doc (at + 4) (n * w) l in
            record {
              bs = bytes_in form.order 4 n ++ body;
              sits = sits-join (bytes_in form.order 4 n) body c (rw (bytes-length form.order 4 n) (sits-part doc (at + 4) (n * w) l));
              next = omega (arith, k, length-append (bytes_in form.order 4 n) body, bytes-length form.order 4 n);
              is = λ name len. f name len n (bytes_in form.order 4 n ++ body) (i.1, omega (arith, i.2, h)) (λ j. bytes_in form.order 4 (sym i.2 j) ++ i.0 j);
            }

    pub leaf-sound : StringLaw form → (at kind : ℕ) → 0 < kind → kind ≤ 12 → holds kind ≡ false → Answers (Numbered form doc) (LaidAs kind at) (leaf_at form doc kind at)
    unfolding leaf_at value_by kind_of width_of PayloadIn ValidBy depth tag_count
    leaf-sound wf at =
        by_kind (λ k. holds k ≡ false → Answers (Numbered form doc) (LaidAs k at) (leaf_at form doc k at))
        (λ h. fixed-sound 1 at 1 (λ name len l. let i = int-laid at 1 (omega arith) l in record { kind_is = refl; lays = i.0; valid = i.1; flat = refl; alone = refl }))
        (λ h. fixed-sound 2 at 2 (λ name len l. let i = int-laid at 2 (omega arith) l in record { kind_is = refl; lays = i.0; valid = i.1; flat = refl; alone = refl }))
        (λ h. fixed-sound 3 at 4 (λ name len l. let i = int-laid at 4 (omega arith) l in record { kind_is = refl; lays = i.0; valid = i.1; flat = refl; alone = refl }))
        (λ h. fixed-sound 4 at 8 (λ name len l. let i = int-laid at 8 (omega arith) l in record { kind_is = refl; lays = i.0; valid = i.1; flat = refl; alone = refl }))
        (λ h. fixed-sound 5 at 4 (λ name len l. let v = value-bytes form.order doc bytes at 4 l in record { kind_is = refl; lays = sym v.0; valid = v.1; flat = refl; alone = refl }))
        (λ h. fixed-sound 6 at 8 (λ name len l. let v = value-bytes form.order doc bytes at 8 l in record { kind_is = refl; lays = sym v.0; valid = v.1; flat = refl; alone = refl }))
        (λ h. array-sound 7 at 1 (omega arith) (λ name len n bs a e. record { kind_is = refl; lays = e; valid = a; flat = refl; alone = refl }))
        (λ h. weaker (string_at form doc at) (string-sound form doc wf bytes at) (λ s w. record {
          bs = string_bytes_in form (part doc s.start s.size);
          sits = w.sits;
          next = w.next;
          is = λ name len. record { kind_is = refl; lays = refl; valid = w.text; flat = refl; alone = refl };
        }))
        (λ h. let z : ◌≡◌ {A = ℕ} 0 1 = cc in absurd (omega arith))
        (λ h. let z : ◌≡◌ {A = ℕ} 0 1 = cc in absurd (omega arith))
        (λ h. array-sound 11 at 4 (omega arith) (λ name len n bs a e. record { kind_is = refl; lays = e; valid = a; flat = refl; alone = refl }))
        (λ h. array-sound 12 at 8 (omega arith) (λ name len n bs a e. record { kind_is = refl; lays = e; valid = a; flat = refl; alone = refl }))
