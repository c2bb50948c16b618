-- Where refusal 4 points, as specs/Characters.antt states it.
-- Assumes nothing.
use Prim.Native.Nat.{ℕ, ◌+◌, ◌*◌, ◌≤◌}
use mathlib.Core.Bool.{Bool, true, false}
use mathlib.Core.Logic.{inl, inr}
use mathlib.Core.List.{List, [], ◌∷◌}
use mathlib.Core.Path.{◌≡◌, refl, sym, ap, ◌∙◌}
use native.Mathlib.Omega.{arith}
use lib.Dec.{leb, eqb}
use borrow.Author.Tests.{eq-eqb, eqb-true}
use lib.ListN.{length, get_or}
use Rattle.form.specs.Form.{Form, Way}
use Rattle.form.specs.Answer.{Out, got, no, ◌>>◌, guard, pick, failed, bad_string, output_full, depth_limit}
use Rattle.form.specs.Spans.{part, same}
use Rattle.form.specs.Tree.{kind_of}
use Rattle.form.specs.Numbers.{value, digits}
use Rattle.form.specs.Decoding.{two_of, three_of, unit_of, pair_of, scalar_of, walk, verdict_by, verdict_in}
use Rattle.form.specs.Layout.{payload_in, entry_bytes_in, layout_in}
use Rattle.form.specs.Table.{Head, Forest, none, node, size, width, ◌⊕◌, head_of, width_of, value_by, tags_of, entries_of, value_of}
use Rattle.form.specs.Tables.{IsTable}
use Rattle.form.specs.Reading.{One, counts_of, reading, room_of, has_name, byte_at, bytes_at, number_at, string_at, leaf_at, leaf_one, entry_at, entries, compound_at}
use Rattle.form.specs.Reading.{container_at, payload_by, inside_at, document_at}
use Rattle.form.specs.Turned.{recoded, map_tag, turned}
use Rattle.form.specs.Writing.{string_fine, payload_fine, judged, written, bad_place, answer_of}
use Rattle.form.proofs.Picks.{differ}
use Rattle.form.proofs.Answer.{got-no}
use Rattle.form.proofs.Strings.{string-judged, is_good-iff, is_good-not, well_formed-iff}
use Rattle.form.proofs.Tables.{table-sits, table-length}
use Rattle.form.proofs.Writing.{Broken, judged-told}
use Rattle.form.proofs.Cut.{guard-no}
use Rattle.snbt_form.specs.Lexing.{hex_of}
use Rattle.calls.specs.Words.{read_words, beside_words, refusal}
use Rattle.demands.specs.Characters.{BrokenString, IsReadCharacter, BrokenRecord, in_name, in_string, IsWriteCharacter}
use Rattle.demands.specs.Characters.{strings, AreStringExamples, reads, AreReadExamples, writes, AreWriteExamples}
use Rattle.demands.specs.Marked.{ascii, bytes_in}
use Rattle.form.proofs.Answers.{of-no}
use Rattle.demands.proofs.Documents.{document-sound}

-- ---- reading

-- Every 4 of the definition points at a character.
pub read-character : (form : Form) → IsReadCharacter form
read-character form doc t t' p bytes r = go (reading form doc t) refl r.answer_is
  where
    go : (o : Out One) → reading form doc t ≡ o → refusal bad_string p ≡ read_words (counts_of o) → BrokenString form doc p
    go (got x) e w = let z : bad_string ≡ 0 = ap (λ ws. get_or ws 0 0) w in absurd (omega (arith, z))
    go (no n q) e w =
        let number : n ≡ bad_string = sym (ap (λ ws. get_or ws 0 0) w) in
        let place : p ≡ q = ap (λ ws. get_or ws 1 0) w in
        rw place ((of-no e (document-sound form (well_formed-iff form.strings) doc (room_of (length t)) bytes)).character number)

-- ---- writing

module _ (way : Way) (doc : List ℕ) (h : Head) where
  abbrev name : List ℕ
  name = part doc h.name h.name_length

  abbrev content : List ℕ
  content = part doc h.start h.size

  -- The place is that of what is broken.
  place_of : Broken way doc h → BrokenRecord way.from doc h (bad_place way doc h)
  unfolding bad_place
  place_of (inl b) =
      let x = is_good-not (verdict_in way.from.strings name) b in
      rw (bad_place, x.1) (in_name x.0 ((string-judged way.from.strings name).bad_is x.0 x.1) refl)
  place_of (inr b) =
      let x = is_good-not (verdict_in way.from.strings content) b.2 in
      rw (bad_place, (is_good-iff (verdict_in way.from.strings name)).0 b.0, x.1)
      (in_string x.0 ((well_formed-iff way.from.strings name).0 b.0) b.1 ((string-judged way.from.strings content).bad_is x.0 x.1) refl)

-- A 4 of the definition is at a record of the table, which is broken.
written-broken : (way : Way) (doc t : List ℕ) (i : IsTable (length doc) t) (room n : ℕ) → written way doc i.head i.inner room ≡ no bad_string n
    → (9 * n + 9 ≤ length t) × Broken way doc (head_of t n)
unfolding written size
written-broken way doc t i room n e = go (judged way doc depth_limit false 0 none 0 root) refl e
  where
    root : Forest
    root = node i.head i.inner none

    there : List ℕ
    there = layout_in way.to (turned way (value_of way.from doc i.head i.inner))

    rest : Out (List ℕ)
    rest = guard (leb (length (there)) room) output_full 0 >> got (there)

    go : (o : Out (Unit {0})) → judged way doc depth_limit false 0 none 0 root ≡ o → (o >> rest) ≡ no bad_string n → (9 * n + 9 ≤ length t) × Broken way doc (head_of t n)
    go (got a) j f = absurd (got-no (guard-no (leb (length (there)) room) output_full 0 _ (λ q. omega (arith, q)) f).1)
    go (no m p) j f =
        let number : m ≡ bad_string = cc in
        let place : p ≡ n = cc in
        let b = of-no j (judged-told way doc t depth_limit false 0 none 0 root (table-sits (length doc) t i)) in
        rw (← place) (omega (arith, b.before, table-length (length doc) t i), b.broken number)

pub write-character : (way : Way) → IsWriteCharacter way
write-character way doc t t' o o' p n small i r =
    go (written way doc i.head i.inner (length o)) refl (r.words_are ∙ ap beside_words (r.is.fit small i).answer_is)
  where
    Points : Type 0
    Points = (9 * n + 9 ≤ length t) × BrokenRecord way.from doc (head_of t n) p

    go : (w : Out (List ℕ)) → written way doc i.head i.inner (length o) ≡ w → bad_string ∷ p ∷ n ∷ 0 ∷ 0 ∷ 0 ∷ 0 ∷ 0 ∷ [] ≡ beside_words (answer_of way doc t w) → Points
    go (got bs) e w = let z : bad_string ≡ 0 = ap (λ ws. get_or ws 0 0) w in absurd (omega (arith, z))
    go (no m q) e w = by (eqb m bad_string) refl w
      where
        by : (b : Bool) → eqb m bad_string ≡ b
            → bad_string ∷ p ∷ n ∷ 0 ∷ 0 ∷ 0 ∷ 0 ∷ 0 ∷ [] ≡ beside_words (pick b (failed m (bad_place way doc (head_of t q)) q) (failed m q 0)) → Points
        by true k v =
            let number : m ≡ bad_string = eqb-true m bad_string k in
            let place : p ≡ bad_place way doc (head_of t q) = ap (λ ws. get_or ws 1 0) v in
            let beside : n ≡ q = ap (λ ws. get_or ws 2 0) v in
            let x = written-broken way doc t i (length o) q (e ∙ ap (λ j. no j q) number) in
            rw (beside, place) (x.0, place_of way doc (head_of t q) x.1)
        by false k v = let z : bad_string ≡ m = ap (λ ws. get_or ws 0 0) v in differ (sym (eq-eqb m bad_string (sym z)) ∙ k)

-- ---- the examples hold by computing

pub string-examples : AreStringExamples
unfolding strings two_of three_of unit_of pair_of scalar_of walk verdict_by hex_of ascii bytes_in
string-examples = refl

pub read-examples : AreReadExamples
unfolding reads value two_of three_of unit_of pair_of scalar_of walk verdict_by same size width ◌⊕◌ width_of hex_of ascii bytes_in
    has_name byte_at bytes_at number_at string_at leaf_at leaf_one entry_at entries compound_at container_at payload_by inside_at document_at
read-examples = refl

pub write-examples : AreWriteExamples
unfolding writes digits two_of three_of unit_of pair_of scalar_of walk verdict_by hex_of ascii bytes_in kind_of payload_in entry_bytes_in layout_in size width ◌⊕◌ width_of value_by tags_of entries_of
    same has_name recoded map_tag string_fine payload_fine judged written bad_place
write-examples = refl
