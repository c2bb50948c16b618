-- Laws of strings and trees in another form (02, [2]): what is encoded by one rule has its characters by it, so a string that is well formed
-- keeps them, and comes back.
-- Assumes nothing.
use Prim.Native.Nat.{ℕ, zero, suc, ◌*◌, ◌≤◌}
use mathlib.Core.Bool.{Bool, true, false}
use mathlib.Core.List.{List, [], ◌∷◌}
use mathlib.Core.Path.{◌≡◌, refl, sym, ap, ◌∙◌}
use native.Mathlib.Omega.{arith}
use lib.ListN.{length, drop, length-append, length-drop}
use lib.Seq.{drop-append_seam}
use Rattle.form.specs.Form.{Rule, modified, utf8, Form, Way, stays, back, same_rule}
use Rattle.form.specs.Strings.{AllScalar, enc_of, encode_by, WellFormedIn}
use Rattle.form.specs.Decoding.{Sequence, is, stuck}
use Rattle.form.specs.Tree.{Tag, Tags, Entries, byte, short, int, long, float, double, byte_array, string, list, compound, int_array, long_array, nil, more, ended, entry, kind_of, many, Document}
use Rattle.form.specs.Turned.{char_then, chars_by, chars_in, recoded, map_tag, map_tags, map_entries, map_document, turned}
use Rattle.form.proofs.Coding.{Coding}
use Rattle.form.proofs.Scalars.{mutf8, scalar_size}
use Rattle.form.proofs.Utf8 as U
use Rattle.form.proofs.Walks as W

-- ---- characters, for any coding

module _ (𝓒 : Coding) where
  open 𝓒 use {enc, one, some, sound, back}

  -- No bytes have no characters.
  chars-none : (f : ℕ) → chars_by one f [] ≡ []
  unfolding chars_by
  chars-none zero = refl
  chars-none (suc f) = go (one []) refl
    where
      go : (r : Sequence) → one [] ≡ r → char_then (chars_by one f) [] r ≡ []
      go stuck e = refl
      go (is c n) e = let w = W.fits 𝓒 [] c n e in absurd (omega (arith, w.0, w.1))

  -- The characters of an encoding are those that were encoded.
  chars-back : (cs : List ℕ) → AllScalar cs → (f : ℕ) → length (encode_by enc cs) ≤ f → chars_by one f (encode_by enc cs) ≡ cs
  unfolding chars_by
  chars-back [] s f h = chars-none f
  chars-back (c ∷ cs) s zero h = absurd (omega (arith, some c, simp length-append at h))
  chars-back (c ∷ cs) s (suc f) h =
      rw (back c s.0 (encode_by enc cs), drop-append_seam) (ap (λ l. c ∷ l) (chars-back cs s.1 f (omega (arith, some c, simp length-append at h))))

  -- There are no more characters than bytes.
  chars-few : (f : ℕ) (l : List ℕ) → length (chars_by one f l) ≤ length l
  unfolding chars_by
  chars-few zero l = omega arith
  chars-few (suc f) l = go (chars-few f) (one l) refl
    where
      go : ((m : List ℕ) → length (chars_by one f m) ≤ length m) → (r : Sequence) → one l ≡ r → length (char_then (chars_by one f) l r) ≤ length l
      go ih stuck e = omega arith
      go ih (is c n) e = let w = W.fits 𝓒 l c n e in omega (arith, w.0, w.1, ih (drop n l), length-drop n l)

-- ---- by a rule

-- The characters of an encoding by a rule.
pub chars-of : (r : Rule) (cs : List ℕ) → AllScalar cs → chars_in r (encode_by (enc_of r) cs) ≡ cs
unfolding chars_in
chars-of modified cs s = chars-back mutf8 cs s (length (encode_by (enc_of modified) cs)) (omega arith)
chars-of utf8 cs s = chars-back U.utf8 cs s (length (encode_by (enc_of utf8) cs)) (omega arith)

-- There are no more than bytes.
pub chars-fewer : (r : Rule) (l : List ℕ) → length (chars_in r l) ≤ length l
unfolding chars_in
chars-fewer modified l = chars-few mutf8 (length l) l
chars-fewer utf8 l = chars-few U.utf8 (length l) l

-- A character takes six bytes at most.
pub enc-size : (r : Rule) (c : ℕ) → length (enc_of r c) ≤ 6
enc-size modified c = scalar_size c
enc-size utf8 c = omega (arith, U.size c)

-- So do many.
pub encoded-size : (r : Rule) (cs : List ℕ) → length (encode_by (enc_of r) cs) ≤ 6 * length cs
encoded-size r [] = omega arith
encoded-size r (c ∷ cs) = omega (arith, length-append (enc_of r c) (encode_by (enc_of r) cs), enc-size r c, encoded-size r cs)

-- ---- strings

-- A rule is the same as itself.
same-rule : (r : Rule) → same_rule r r ≡ true
same-rule modified = refl
same-rule utf8 = refl

-- Two rules that are the same are one.
one-rule : (r s : Rule) → same_rule r s ≡ true → r ≡ s
one-rule modified modified e = refl
one-rule utf8 utf8 e = refl
one-rule modified utf8 e = let z : ◌≡◌ {A = ℕ} 0 1 = cc in absurd (omega arith)
one-rule utf8 modified e = let z : ◌≡◌ {A = ℕ} 0 1 = cc in absurd (omega arith)

module _ (way : Way) (l : List ℕ) where
  -- Where the rule is the same, the bytes are.
  pub recoded-same : same_rule way.from.strings way.to.strings ≡ true → recoded way l ≡ l
  unfolding recoded
  recoded-same e = rw e refl

  -- Where it is not, the characters are.
  pub recoded-other : same_rule way.from.strings way.to.strings ≡ false → recoded way l ≡ encode_by (enc_of way.to.strings) (chars_in way.from.strings l)
  unfolding recoded
  recoded-other e = rw e refl

  -- What is written takes at most six times the bytes.
  pub recoded-bound : length (recoded way l) ≤ 6 * length l
  recoded-bound = go (same_rule way.from.strings way.to.strings) refl
    where
      go : (b : Bool) → same_rule way.from.strings way.to.strings ≡ b → length (recoded way l) ≤ 6 * length l
      go true e = omega (arith, ap length (recoded-same e))
      go false e =
          let cs = chars_in way.from.strings l in
          omega (arith, ap length (recoded-other e), encoded-size way.to.strings cs, chars-fewer way.from.strings l)

-- A string that stays in its form is as it was.
pub recoded-stays : (form : Form) (l : List ℕ) → recoded (stays form) l ≡ l
recoded-stays form l = recoded-same (stays form) l (same-rule form.strings)

-- What one rule encodes is written as the other encodes it.
pub recoded_coded : (way : Way) (cs : List ℕ) → AllScalar cs → recoded way (encode_by (enc_of way.from.strings) cs) ≡ encode_by (enc_of way.to.strings) cs
recoded_coded way cs s = go (same_rule way.from.strings way.to.strings) refl
  where
    go : (b : Bool) → same_rule way.from.strings way.to.strings ≡ b → recoded way (encode_by (enc_of way.from.strings) cs) ≡ encode_by (enc_of way.to.strings) cs
    go true e = recoded-same way _ e ∙ ap (λ r. encode_by (enc_of r) cs) (one-rule way.from.strings way.to.strings e)
    go false e = recoded-other way _ e ∙ ap (encode_by (enc_of way.to.strings)) (chars-of way.from.strings cs s)

module _ (way : Way) (l : List ℕ) (w : WellFormedIn way.from.strings l) where
  -- What is written of a well-formed string, by its characters.
  pub recoded-is : recoded way l ≡ encode_by (enc_of way.to.strings) w.0
  recoded-is = ap (recoded way) (sym w.2) ∙ recoded_coded way w.0 w.1

  -- It is well formed by the other rule.
  pub recoded-good : WellFormedIn way.to.strings (recoded way l)
  recoded-good = (w.0, w.1, sym recoded-is)

  -- It has the characters that it had.
  pub recoded-chars : chars_in way.to.strings (recoded way l) ≡ chars_in way.from.strings l
  recoded-chars =
      ap (chars_in way.to.strings) recoded-is
      ∙ chars-of way.to.strings w.0 w.1
      ∙ sym (ap (chars_in way.from.strings) (sym w.2) ∙ chars-of way.from.strings w.0 w.1)

  -- And it comes back.
  pub recoded-back : recoded (back way) (recoded way l) ≡ l
  recoded-back = ap (recoded (back way)) recoded-is ∙ recoded_coded (back way) w.0 w.1 ∙ w.2

-- Two well-formed strings that are written alike are one.
pub recoded-one : (way : Way) (l m : List ℕ) → WellFormedIn way.from.strings l → WellFormedIn way.from.strings m → recoded way l ≡ recoded way m → l ≡ m
recoded-one way l m w x e = sym (recoded-back way l w) ∙ ap (recoded (back way)) e ∙ recoded-back way m x

-- ---- trees

module _ (g : List ℕ → List ℕ) where
  -- A tag whose strings are replaced is of the kind that it was.
  pub map-kind : (t : Tag) → kind_of (map_tag g t) ≡ kind_of t
  unfolding map_tag kind_of
  map-kind (byte v) = refl
  map-kind (short v) = refl
  map-kind (int v) = refl
  map-kind (long v) = refl
  map-kind (float b) = refl
  map-kind (double b) = refl
  map-kind (byte_array vs) = refl
  map-kind (string s) = refl
  map-kind (list ts) = refl
  map-kind (compound es) = refl
  map-kind (int_array vs) = refl
  map-kind (long_array vs) = refl

  -- A list has as many elements.
  pub map-many : (ts : Tags) → many (map_tags g ts) ≡ many ts
  unfolding map_tag many
  map-many nil = refl
  map-many (more t ts) = omega (arith, map-many ts)

-- A tree in which each string is replaced by itself is as it was.
mutual
  unfolding map_tag

  map-id : (t : Tag) → map_tag (λ s. s) t ≡ t
  map-id (byte v) = refl
  map-id (short v) = refl
  map-id (int v) = refl
  map-id (long v) = refl
  map-id (float b) = refl
  map-id (double b) = refl
  map-id (byte_array vs) = refl
  map-id (string s) = refl
  map-id (list ts) = ap list (map-tags-id ts)
  map-id (compound es) = ap compound (map-entries-id es)
  map-id (int_array vs) = refl
  map-id (long_array vs) = refl

  map-tags-id : (ts : Tags) → map_tags (λ s. s) ts ≡ ts
  map-tags-id nil = refl
  map-tags-id (more t ts) = λ i. more (map-id t i) (map-tags-id ts i)

  pub map-entries-id : (es : Entries) → map_entries (λ s. s) es ≡ es
  map-entries-id ended = refl
  map-entries-id (entry n t es) = λ i. entry n (map-id t i) (map-entries-id es i)

-- A document that stays in its form is as it was.
pub turned-stays : (form : Form) (d : Document) → turned (stays form) d ≡ d
turned-stays form d = (λ i. map_document (λ s. recoded-stays form s i) d) ∙ (λ i. record { name = d.name; root = map-entries-id d.root i })
