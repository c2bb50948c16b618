-- The heads of a list and of an entry: what is read is laid out, and what is laid out is read.
-- Assumes nothing.
use Prim.Native.Nat.{ℕ, ◌+◌, ◌^◌, ◌≤◌, ◌<◌}
use mathlib.Core.List.{List, [], ◌∷◌}
use mathlib.Core.Bool.{Bool, true, false, not, ◌&&◌, ◌||◌}
use mathlib.Core.Path.{◌≡◌, refl, sym, ap, subst, ◌∙◌}
use native.Mathlib.Omega.{arith}
use lib.Dec.{ltb, leb, eqb}
use borrow.Author.Tests.{ltb-true, leb-true, eqb-true, eqb-false, not-true, ne_eqb}
use lib.ListN.{length}
use Rattle.form.specs.Form.{Form}
use Rattle.form.specs.Answer.{got, guard, ◌>>◌, ◌>>=◌}
use Rattle.form.specs.Spans.{part}
use Rattle.form.specs.Numbers.{bytes_in}
use Rattle.form.specs.Tree.{Tags, nil, more, many, TextIn}
use Rattle.form.specs.Layout.{string_bytes_in, ListId, list_id}
use Rattle.form.specs.Reading.{Span, ListHead, Entry, end, named, byte_at, number_at, string_at, entry_at, list_head_at}
use Rattle.form.proofs.Picks.{differ, and_left, and_right}
use Rattle.form.proofs.Fields.{entry-got, list-head-empty, list-head-got}
use Rattle.snbt_form.specs.Lexing.{among}
use Rattle.demands.specs.Reading.{Bytes}
use Rattle.demands.proofs.Sits.{Sits, sits-join, sits-rest, sits-head}
use Rattle.form.proofs.Answers.{Answers, bind-answers, guard-answers, got-answers}
use Rattle.demands.proofs.Answers.{Numbered, other}
use Rattle.demands.proofs.Tags.{kind-range}
use Rattle.demands.proofs.Fields.{StringLaw, byte-sound, number-sound, string-sound, string-length, number_read, string-read}

module _ (form : Form) (doc : List ℕ) where
  -- ---- what is read is laid out

  -- a list's head that was read
  pub record HeadIs (at : ℕ) (h : ListHead) : Type 0 where
    pub id : ℕ
    pub id-le : id ≤ 12
    pub small : h.count < 2 ^ 31
    pub sits : Sits doc at (id ∷ bytes_in form.order 4 h.count)
    pub some_is : 0 < h.count → (h.kind ≡ id) × (0 < id)

  pub head-sound : Bytes doc → (at : ℕ) → Answers (Numbered form doc) (HeadIs at) (list_head_at form doc at)
  unfolding list_head_at among
  head-sound bytes at =
      bind-answers (byte_at doc at) _ (byte-sound form doc at)
      (λ k b. bind-answers (number_at form doc 4 (at + 1)) _ (number-sound form doc bytes 4 (at + 1))
      (λ n v. guard-answers (leb k 12 && (not (eqb k 0) || eqb n 0)) _ _ _ (λ e. other form refl refl)
      (λ e. guard-answers (ltb n (2 ^ 31)) _ _ _ (λ f. other form refl refl)
      (λ f. got-answers (record {
        id = k;
        id-le = leb-true k 12 (and_left (leb k 12) _ e);
        small = ltb-true n (2 ^ 31) f;
        sits = sits-join (k ∷ []) (bytes_in form.order 4 n) b.2 v.1;
        some_is = λ p.
            let z : eqb n 0 ≡ false = ne_eqb n 0 (λ y. absurd (omega (arith, y, p))) in
            let w = eqb-false k 0 (not-true _ (or_left (not (eqb k 0)) (eqb n 0) z (and_right (leb k 12) _ e))) in
            (some (eqb n 0) k z, omega (arith, w));
      })))))
    where
      or_left : (a b : Bool) → b ≡ false → (a || b) ≡ true → a ≡ true
      or_left true b p e = refl
      or_left false b p e = sym p ∙ e

      some : (t : Bool) (k : ℕ) → t ≡ false → ◌≡◌ {A = ℕ} (elim t [ true ↦ 0 | false ↦ k ]) k
      some true k e = differ e
      some false k e = refl

  -- an entry's kind and name that were read
  pub record NamedIs (at kind : ℕ) (s : Span) : Type 0 where
    pub pos : 0 < kind
    pub le : kind ≤ 12
    pub sits : Sits doc at (kind ∷ string_bytes_in form (part doc s.start s.size))
    pub next : s.next ≡ at + length (kind ∷ string_bytes_in form (part doc s.start s.size))
    pub text : TextIn form (part doc s.start s.size)

  -- an entry's head that was read, the end or a name
  abbrev pub EntryIs : ℕ → Entry → Type 0
  EntryIs at end = Sits doc at (0 ∷ [])
  EntryIs at (named kind s) = NamedIs at kind s

  pub entry-sound : StringLaw form → Bytes doc → (at : ℕ) → Answers (Numbered form doc) (EntryIs at) (entry_at form doc at)
  unfolding entry_at among
  entry-sound wf bytes at = bind-answers (byte_at doc at) _ (byte-sound form doc at) (λ k b. go k b.2 (eqb k 0) refl)
    where
      go : (k : ℕ) → Sits doc at (k ∷ []) → (t : Bool) → eqb k 0 ≡ t
          → Answers (Numbered form doc) (EntryIs at) (elim t [ true ↦ got end | false ↦ string_at form doc (at + 1) >>= (λ s. guard (leb k 12) 3 at >> got (named k s)) ])
      go k b true e = got-answers (subst (λ q. Sits doc at (q ∷ [])) (eqb-true k 0 e) b)
      go k b false e =
          bind-answers (string_at form doc (at + 1)) _ (string-sound form doc wf bytes (at + 1))
          (λ s w. guard-answers (leb k 12) _ _ _ (λ f. other form refl refl)
          (λ f. got-answers (record {
            pos = let z = eqb-false k 0 e in omega (arith, z);
            le = leb-true k 12 f;
            sits = sits-join (k ∷ []) (string_bytes_in form (part doc s.start s.size)) b w.sits;
            next = omega (arith, w.next);
            text = w.text;
          })))

  -- ---- what is laid out is read

  -- a list's head: the id that it may carry, and its count
  pub list-head-read : (at id : ℕ) (ts : Tags) → ListId ts id → many ts < 2 ^ 31 → Sits doc at (id ∷ bytes_in form.order 4 (many ts))
      → list_head_at form doc at ≡ got (record { kind = list_id ts; count = many ts })
  unfolding many
  list-head-read at id nil l h s =
      let b = sits-head id (bytes_in form.order 4 0) s in
      list-head-empty form doc at b.0 (number_read form doc 4 0 (omega arith) (sits-rest (id ∷ []) (bytes_in form.order 4 0) s)) (omega (arith, b.1)) refl
  list-head-read at id (more t ts) l h s =
      let c = 1 + many ts in
      let b = sits-head id (bytes_in form.order 4 c) s in
      let k = kind-range t in
      let r = number_read form doc 4 c (omega arith) (sits-rest (id ∷ []) (bytes_in form.order 4 c) s) in
      list-head-got form doc at b.0 r (omega (arith, b.1, l)) (λ z. absurd (omega (arith, b.1, l, k))) (λ z. absurd (omega arith)) h
      ∙ ap (λ q. got (record { kind = q; count = c })) (b.1 ∙ l)

  -- an entry's head: its kind, and its name behind the length
  pub entry_read : StringLaw form → {at : ℕ} (kind : ℕ) (name : List ℕ) → 0 < kind → kind ≤ 12 → TextIn form name → Sits doc at (kind ∷ string_bytes_in form name)
      → entry_at form doc at ≡ got (named kind (record { start = at + 3; size = length name; count = 0; next = at + length (kind ∷ string_bytes_in form name) }))
  entry_read wf {at} kind name pos le text s =
      let h = sits-head kind (string_bytes_in form name) s in
      let g = h.1 in
      let e = entry-got form doc at h.0 (λ z. absurd (omega (arith, g, z))) (string-read form doc wf name text (sits-rest (kind ∷ []) (string_bytes_in form name) s)) (omega (arith, g)) in
      let p : at + 1 + 2 ≡ at + 3 = omega arith in
      let q : at + 1 + 2 + length name ≡ at + length (kind ∷ string_bytes_in form name) = omega (arith, string-length form name) in
      e ∙ (λ i. got (named (g i) (record { start = p i; size = length name; count = 0; next = q i })))
