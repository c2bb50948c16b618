-- What an accepted answer of the exported read says: the definition accepted, and what the words and the table then are.
-- Assumes nothing.
use Prim.Native.Nat.{ℕ, ◌+◌, ◌*◌}
use mathlib.Core.Path.{◌≡◌, refl, sym, ap, subst, ◌∙◌}
use mathlib.Core.List.{List, [], ◌∷◌}
use native.Mathlib.Omega.{arith}
use lib.ListN.{length, take}
use Rattle.form.specs.Form.{Form}
use Rattle.form.specs.Answer.{Out, got, no}
use Rattle.form.specs.Spans.{over}
use Rattle.form.specs.Table.{none, node, size, flat, wrote}
use Rattle.form.specs.Reading.{One, counts_of, table_after, reading, room_of, document_at}
use Rattle.form.proofs.Places.{part-over}
use Rattle.form.proofs.Table.{flat-length, size-one}
use Rattle.calls.specs.Words.{read_words}
use Rattle.calls.specs.Calls.{ReadCalled}
use Rattle.demands.specs.Reading.{Bytes}
use Rattle.demands.specs.Queries.{words_of}
use Rattle.demands.proofs.Reading.{never-zero}

-- The words of the records counted are those of the records read.
counted_words : (t : List ℕ) (x : One) → take (9 * (1 + size x.inner)) (table_after (got x) t) ≡ words_of x
unfolding wrote
counted_words t x =
    let f = node x.head x.inner none in
    let e : 9 * (1 + size x.inner) ≡ length (flat 0 0 f) = omega (arith, flat-length 0 0 f, size-one x.head x.inner) in
    ap (λ (k : ℕ). take k (over t 0 (flat 0 0 f))) e ∙ part-over t 0 (flat 0 0 f) (omega arith)

-- A read of doc into t that gave x, consumed c bytes and counted n records.
pub record Held (form : Form) (doc t t' : List ℕ) (c n : ℕ) (x : One) : Type 0 where
  pub is : document_at form doc (room_of (length t)) ≡ got x
  pub consumed : x.next ≡ c
  pub records : 1 + size x.inner ≡ n
  pub words : take (9 * n) t' ≡ words_of x

module _ (form : Form) (doc t t' : List ℕ) where
  -- Where the definition accepts x, the words are its counts and the table holds its records.
  pub held_by : {c n : ℕ} (x : One) → reading form doc t ≡ got x → x.next ≡ c → 1 + size x.inner ≡ n → t' ≡ table_after (got x) t → Held form doc t t' c n x
  held_by {c} {n} x e k m h = record {
    is = e;
    consumed = k;
    records = m;
    words = ap (λ (i : ℕ). take (9 * i) t') (sym m) ∙ ap (take (9 * (1 + size x.inner))) h ∙ counted_words t x;
  }

  -- An answer that begins with 0 is no refusal's.
  pub held : {a : List ℕ} → Bytes doc → ReadCalled form doc t t' a → (c n : ℕ) → a ≡ 0 ∷ 0 ∷ c ∷ n ∷ 0 ∷ 0 ∷ 0 ∷ 0 ∷ [] → (x : One) × Held form doc t t' c n x
  held bytes r c n e = go (reading form doc t) refl (sym r.answer_is ∙ e) r.table_is
    where
      go : (o : Out One) → reading form doc t ≡ o → read_words (counts_of o) ≡ 0 ∷ 0 ∷ c ∷ n ∷ 0 ∷ 0 ∷ 0 ∷ 0 ∷ [] → t' ≡ table_after o t
          → (x : One) × Held form doc t t' c n x
      go (got x) h w k =
          let consumed : x.next ≡ c = cc in
          let records : 1 + size x.inner ≡ n = cc in
          (x, held_by x h consumed records k)
      go (no m p) h w k =
          let z : m ≡ 0 = cc in
          absurd (never-zero form doc bytes (room_of (length t)) p (subst (λ (i : ℕ). reading form doc t ≡ no i p) z h))
