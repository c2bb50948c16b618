-- Laws of trees whose strings are replaced (02, [2]): what is said of the tree apart from its strings stays, names that differ go on to differ
-- where the replacement is one to one, and what agrees on each string agrees on the tree.
-- Assumes nothing.
use Prim.Native.Nat.{ℕ}
use mathlib.Core.Bool.{Bool, true, false, ◌||◌}
use mathlib.Core.List.{List}
use mathlib.Core.Path.{◌≡◌, refl, sym, ap, ◌∙◌}
use native.Mathlib.Omega.{arith}
use Rattle.form.specs.Spans.{same}
use Rattle.form.specs.Tree.{Tag, Tags, Entries, byte, short, int, long, float, double, byte_array, string, list, compound, int_array, long_array, nil, more, ended, entry, Document}
use Rattle.form.specs.Tree.{kind_of, tag_count, tags_count, entries_count, depth, tags_depth, entries_depth, has_entry, OneKind, Alike, ValidBy, ValidTagsBy, ValidEntriesBy, LawfulBy}
use Rattle.form.specs.Turned.{map_tag, map_tags, map_entries, map_document}
use Rattle.form.proofs.Spans.{same_true}
use Rattle.form.proofs.Turned.{map-kind, map-many}
use Rattle.form.proofs.Picks.{differ}
use Rattle.demands.proofs.Names.{same_self}

-- ---- a weaker demand on strings

module _ (P Q : List ℕ → Type 0) (to : (s : List ℕ) → P s → Q s) where
  mutual
    unfolding ValidBy

    valid_to : (t : Tag) → ValidBy P t → ValidBy Q t
    valid_to (byte v) h = h
    valid_to (short v) h = h
    valid_to (int v) h = h
    valid_to (long v) h = h
    valid_to (float b) h = h
    valid_to (double b) h = h
    valid_to (byte_array vs) h = h
    valid_to (string s) h = to s h
    valid_to (list ts) h = (h.0, h.1, valid-tags-to ts h.2)
    valid_to (compound es) h = valid-entries-to es h
    valid_to (int_array vs) h = h
    valid_to (long_array vs) h = h

    valid-tags-to : (ts : Tags) → ValidTagsBy P ts → ValidTagsBy Q ts
    valid-tags-to nil h = tt
    valid-tags-to (more t ts) h = (valid_to t h.0, valid-tags-to ts h.1)

    valid-entries-to : (es : Entries) → ValidEntriesBy P es → ValidEntriesBy Q es
    valid-entries-to ended h = tt
    valid-entries-to (entry n t es) h = (to n h.0, h.1, valid_to t h.2, valid-entries-to es h.3)

  -- A document that keeps the rules keeps them where less is asked of its strings.
  pub lawful-to : (d : Document) → LawfulBy P d → LawfulBy Q d
  lawful-to d h = record { name = to d.name h.name; valid = valid-entries-to d.root h.valid; depth_le = h.depth_le }

-- ---- apart from strings

module _ (g : List ℕ → List ℕ) where
  mutual
    unfolding map_tag depth

    map-depth : (t : Tag) → depth (map_tag g t) ≡ depth t
    map-depth (byte v) = refl
    map-depth (short v) = refl
    map-depth (int v) = refl
    map-depth (long v) = refl
    map-depth (float b) = refl
    map-depth (double b) = refl
    map-depth (byte_array vs) = refl
    map-depth (string s) = refl
    map-depth (list ts) = omega (arith, map-tags-depth ts)
    map-depth (compound es) = omega (arith, map-entries-depth es)
    map-depth (int_array vs) = refl
    map-depth (long_array vs) = refl

    map-tags-depth : (ts : Tags) → tags_depth (map_tags g ts) ≡ tags_depth ts
    map-tags-depth nil = refl
    map-tags-depth (more t ts) = omega (arith, map-depth t, map-tags-depth ts)

    pub map-entries-depth : (es : Entries) → entries_depth (map_entries g es) ≡ entries_depth es
    map-entries-depth ended = refl
    map-entries-depth (entry n t es) = omega (arith, map-depth t, map-entries-depth es)

  mutual
    unfolding map_tag tag_count

    map-count : (t : Tag) → tag_count (map_tag g t) ≡ tag_count t
    map-count (byte v) = refl
    map-count (short v) = refl
    map-count (int v) = refl
    map-count (long v) = refl
    map-count (float b) = refl
    map-count (double b) = refl
    map-count (byte_array vs) = refl
    map-count (string s) = refl
    map-count (list ts) = omega (arith, map-tags-count ts)
    map-count (compound es) = omega (arith, map-entries-count es)
    map-count (int_array vs) = refl
    map-count (long_array vs) = refl

    map-tags-count : (ts : Tags) → tags_count (map_tags g ts) ≡ tags_count ts
    map-tags-count nil = refl
    map-tags-count (more t ts) = omega (arith, map-count t, map-tags-count ts)

    pub map-entries-count : (es : Entries) → entries_count (map_entries g es) ≡ entries_count es
    map-entries-count ended = refl
    map-entries-count (entry n t es) = omega (arith, map-count t, map-entries-count es)

  -- A list that holds one kind goes on to.
  map-one : (k : ℕ) (ts : Tags) → OneKind k ts → OneKind k (map_tags g ts)
  unfolding map_tag OneKind
  map-one k nil h = tt
  map-one k (more t ts) h = (map-kind g t ∙ h.0, map-one k ts h.1)

  map-alike : (ts : Tags) → Alike ts → Alike (map_tags g ts)
  unfolding map_tag OneKind
  map-alike nil h = tt
  map-alike (more t ts) h = rw (map-kind g t) (map-one (kind_of t) ts h)

-- ---- what is valid stays so

module _ (P Q : List ℕ → Type 0) (g : List ℕ → List ℕ) (to : (s : List ℕ) → P s → Q (g s)) (one : (s t : List ℕ) → P s → P t → g s ≡ g t → s ≡ t) where
  -- A name that no entry has is one that no entry has.
  map-new : (n : List ℕ) → P n → (es : Entries) → ValidEntriesBy P es → has_entry n es ≡ false → has_entry (g n) (map_entries g es) ≡ false
  unfolding map_tag has_entry ValidBy
  map-new n p ended v h = refl
  map-new n p (entry m t es) v h = go (same (g m) (g n)) refl (same m n) refl h (map-new n p es v.3)
    where
      go : (b : Bool) → same (g m) (g n) ≡ b → (c : Bool) → same m n ≡ c → (c || has_entry n es) ≡ false
          → (has_entry n es ≡ false → has_entry (g n) (map_entries g es) ≡ false) → (b || has_entry (g n) (map_entries g es)) ≡ false
      go false e c f z ih = ih (right c z)
        where
          right : (c : Bool) → (c || has_entry n es) ≡ false → has_entry n es ≡ false
          right false z = z
          right true z = differ z
      go true e false f z ih =
          let alike = one m n v.0 p (same_true (g m) (g n) e) in
          differ (sym (ap (λ x. same x n) alike ∙ same_self n) ∙ f)
      go true e true f z ih = differ z

  mutual
    unfolding map_tag ValidBy

    valid-map : (t : Tag) → ValidBy P t → ValidBy Q (map_tag g t)
    valid-map (byte v) h = h
    valid-map (short v) h = h
    valid-map (int v) h = h
    valid-map (long v) h = h
    valid-map (float b) h = h
    valid-map (double b) h = h
    valid-map (byte_array vs) h = h
    valid-map (string s) h = to s h
    valid-map (list ts) h = (map-alike g ts h.0, omega (arith, map-many g ts, h.1), valid-tags-map ts h.2)
    valid-map (compound es) h = valid-entries-map es h
    valid-map (int_array vs) h = h
    valid-map (long_array vs) h = h

    valid-tags-map : (ts : Tags) → ValidTagsBy P ts → ValidTagsBy Q (map_tags g ts)
    valid-tags-map nil h = tt
    valid-tags-map (more t ts) h = (valid-map t h.0, valid-tags-map ts h.1)

    valid-entries-map : (es : Entries) → ValidEntriesBy P es → ValidEntriesBy Q (map_entries g es)
    valid-entries-map ended h = tt
    valid-entries-map (entry n t es) h = (to n h.0, map-new n h.0 es h.3 h.1, valid-map t h.2, valid-entries-map es h.3)

  -- A document that keeps the rules keeps them with its strings replaced.
  pub lawful-map : (d : Document) → LawfulBy P d → LawfulBy Q (map_document g d)
  lawful-map d h = record {
    name = to d.name h.name;
    valid = valid-entries-map d.root h.valid;
    depth_le = omega (arith, map-entries-depth g d.root, h.depth_le);
  }

-- ---- two replacements

module _ (P : List ℕ → Type 0) (f g h : List ℕ → List ℕ) (agree : (s : List ℕ) → P s → f (g s) ≡ h s) where
  mutual
    unfolding map_tag ValidBy

    map-then : (t : Tag) → ValidBy P t → map_tag f (map_tag g t) ≡ map_tag h t
    map-then (byte v) w = refl
    map-then (short v) w = refl
    map-then (int v) w = refl
    map-then (long v) w = refl
    map-then (float b) w = refl
    map-then (double b) w = refl
    map-then (byte_array vs) w = refl
    map-then (string s) w = ap string (agree s w)
    map-then (list ts) w = ap list (map-tags-then ts w.2)
    map-then (compound es) w = ap compound (map-entries-then es w)
    map-then (int_array vs) w = refl
    map-then (long_array vs) w = refl

    map-tags-then : (ts : Tags) → ValidTagsBy P ts → map_tags f (map_tags g ts) ≡ map_tags h ts
    map-tags-then nil w = refl
    map-tags-then (more t ts) w = λ i. more (map-then t w.0 i) (map-tags-then ts w.1 i)

    map-entries-then : (es : Entries) → ValidEntriesBy P es → map_entries f (map_entries g es) ≡ map_entries h es
    map-entries-then ended w = refl
    map-entries-then (entry n t es) w = λ i. entry (agree n w.0 i) (map-then t w.2 i) (map-entries-then es w.3 i)

  -- One replacement after another is the one that they agree with on each string.
  pub document-then : (d : Document) → LawfulBy P d → map_document f (map_document g d) ≡ map_document h d
  document-then d w = λ i. record { name = agree d.name w.name i; root = map-entries-then d.root w.valid i }
