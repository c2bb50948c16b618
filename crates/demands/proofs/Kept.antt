-- What is kept of a cut document keeps the rules, and its records are fair: rule by rule of the induction over cut reads.
-- Assumes nothing.
use Prim.Native.Nat.{ℕ, suc, ◌+◌, ◌^◌, ◌≤◌, ◌<◌}
use mathlib.Core.List.{List}
use mathlib.Core.Bool.{true, false}
use mathlib.Core.Logic.{◌⊎◌, inl, inr}
use mathlib.Core.Path.{◌≡◌, refl, ◌∙◌}
use native.Mathlib.Omega.{arith}
use lib.Dec.{eqb}
use lib.ListN.{length}
use Rattle.form.specs.Form.{Form}
use Rattle.form.specs.Spans.{part}
use Rattle.form.specs.Tree.{Tag, kind_of, depth, tags_depth, entries_depth, has_entry, OneKind, TextIn, ValidIn, ValidTagsIn, ValidEntriesIn, ValidBy}
use Rattle.form.specs.Table.{Head, Forest, none, node, size, width, ◌⊕◌, value_by, tags_of, entries_of}
use Rattle.form.specs.Tables.{LeafIs, ContainerIs, Fair}
use Rattle.form.specs.Reading.{One, Span, has_name}
use Rattle.form.specs.Cut.{Kept, nothing, open_head}
use Rattle.form.proofs.Tables.{fair-node, fair-none, name-within}
use Rattle.form.proofs.Values.{kind_is, fair-kind, many_is}
use Rattle.form.proofs.Answers.{of-got}
use Rattle.demands.proofs.Names.{Apart, apart-back}
use Rattle.demands.proofs.Induction.{HeadOf, TagWhole, Rules}
use Rattle.demands.proofs.Sound.{alike}
use Rattle.demands.proofs.Tabled.{tag_is}

module _ (form : Form) (doc : List ℕ) (room : ℕ) where
  -- the tag that a record stands for
  abbrev pub tag_at : Head → Forest → Tag
  tag_at h inner = value_by form doc h (tags_of form doc inner) (entries_of form doc inner)

  -- a record that is kept, number n, whole or open
  pub record GoodTag (d kind name len n : ℕ) (h : Head) (inner : Forest) : Type 0 where
    pub kind_is : h.kind ≡ kind
    pub name-is : h.name ≡ name
    pub len_is : h.name_length ≡ len
    pub sort : LeafIs (length doc) h inner ⊎ ContainerIs h inner
    pub fair : Fair (length doc) (eqb h.kind 9) inner
    pub valid : ValidIn form (tag_at h inner)
    pub deep : depth (tag_at h inner) ≤ d
    pub fits : n + 1 + size inner ≤ room

  -- elements that are kept, of a kind, at most so many
  pub record GoodTags (d k c n : ℕ) (f : Forest) : Type 0 where
    pub fair : Fair (length doc) true f
    pub valid : ValidTagsIn form (tags_of form doc f)
    pub one-kind : OneKind k (tags_of form doc f)
    pub wide : width f ≤ c
    pub deep : tags_depth (tags_of form doc f) ≤ d
    pub fits : n + size f ≤ room

  -- entries that are kept, after earlier ones
  pub record GoodEntries (d n : ℕ) (earlier f : Forest) : Type 0 where
    pub fair : Fair (length doc) false f
    pub valid : ValidEntriesIn form (entries_of form doc f)
    pub apart : Apart doc earlier (entries_of form doc f)
    pub deep : entries_depth (entries_of form doc f) ≤ d
    pub fits : n + size f ≤ room

  -- what is kept of a tag that is not whole: nothing, or one record
  abbrev pub GoodBegun : ℕ → ℕ → ℕ → ℕ → ℕ → Kept → Type 0
  GoodBegun d kind name len n k = (k ≡ nothing) ⊎ ((h : Head) × (inner : Forest) × (k.forest ≡ node h inner none) × GoodTag d kind name len n h inner)

  good-kind : {d kind name len n : ℕ} {h : Head} {inner : Forest} → GoodTag d kind name len n h inner → kind_of (tag_at h inner) ≡ kind
  good-kind {d} {kind} {name} {len} {n} {h} {inner} g =
      let r = fair-kind (length doc) h inner g.sort in
      kind_is form doc h (tags_of form doc inner) (entries_of form doc inner) r.0 r.1 ∙ g.kind_is

  no-tags : (d k c n : ℕ) → n ≤ room → GoodTags d k c n none
  unfolding ValidBy OneKind depth tags_of size width
  no-tags d k c n l = record { fair = fair-none (length doc) true; valid = tt; one-kind = tt; wide = omega arith; deep = omega arith; fits = omega arith }

  more-tags : {d k c n : ℕ} {h : Head} {inner later : Forest} → GoodTag d k 0 0 n h inner → GoodTags d k c (n + 1 + size inner) later → GoodTags d k (suc c) n (node h inner later)
  unfolding ValidBy OneKind depth tags_of size width
  more-tags {d} {k} {c} {n} {h} {inner} {later} g r = record {
    fair = fair-node (length doc) true h inner later (record { within = omega (arith, g.name-is, g.len_is); nameless = λ e. (g.name-is, g.len_is) }) g.sort g.fair r.fair;
    valid = (g.valid, r.valid);
    one-kind = (good-kind g, r.one-kind);
    wide = omega (arith, r.wide);
    deep = omega (arith, g.deep, r.deep);
    fits = omega (arith, r.fits);
  }

  no-entries : (d n : ℕ) (earlier : Forest) → n ≤ room → GoodEntries d n earlier none
  unfolding ValidBy depth entries_of size has_entry
  no-entries d n earlier l = record { fair = fair-none (length doc) false; valid = tt; apart = λ x e. refl; deep = omega arith; fits = omega arith }

  -- an entry's name: where it lies, that it is text, and that it is new
  pub record GoodName (name len : ℕ) (earlier : Forest) : Type 0 where
    pub within : name + len ≤ length doc
    pub text : TextIn form (part doc name len)
    pub new : has_name doc (part doc name len) earlier ≡ false

  more-entries : {d kind name len n : ℕ} {earlier : Forest} {h : Head} {inner later : Forest} → GoodName name len earlier → GoodTag d kind name len n h inner
      → GoodEntries d (n + 1 + size inner) (earlier ⊕ node h inner none) later → GoodEntries d n earlier (node h inner later)
  unfolding ValidBy depth entries_of size
  more-entries {d} {kind} {name} {len} {n} {earlier} {h} {inner} {later} i g r =
      let word : part doc h.name h.name_length ≡ part doc name len = rw (g.name-is, g.len_is) refl in
      let b = apart-back doc earlier h inner (part doc name len) word (tag_at h inner) (entries_of form doc later) i.new r.apart in
      record {
        fair = fair-node (length doc) false h inner later (name-within _ h (omega (arith, g.name-is, g.len_is, i.within))) g.sort g.fair r.fair;
        valid = rw word (i.text, b.1, g.valid, r.valid);
        apart = rw word b.0;
        deep = omega (arith, g.deep, r.deep);
        fits = omega (arith, r.fits);
      }

  -- an open list and an open compound
  open-list : (d k c n name len : ℕ) (f : Forest) → c < 2 ^ 31 → GoodTags d k c (n + 1) f → GoodTag (suc d) 9 name len n (open_head 9 name len f) f
  unfolding ValidBy depth value_by
  open-list d k c n name len f few g = record {
    kind_is = refl;
    name-is = refl;
    len_is = refl;
    sort = inr (record { kind = refl; start = refl; long = refl; count = refl; listed = refl });
    fair = g.fair;
    valid = (alike k (tags_of form doc f) g.one-kind, omega (arith, many_is form doc f, g.wide), g.valid);
    deep = omega (arith, g.deep);
    fits = g.fits;
  }

  pub open-compound : (d n name len : ℕ) (f : Forest) → GoodEntries d (n + 1) none f → GoodTag (suc d) 10 name len n (open_head 10 name len f) f
  unfolding ValidBy depth value_by
  open-compound d n name len f g = record {
    kind_is = refl;
    name-is = refl;
    len_is = refl;
    sort = inr (record { kind = refl; start = refl; long = refl; count = refl; listed = refl });
    fair = g.fair;
    valid = g.valid;
    deep = omega (arith, g.deep);
    fits = g.fits;
  }

  -- a whole tag
  whole-good : {d kind name len at n : ℕ} {x : One} → TagWhole form doc room d kind name len at n x → GoodTag d kind name len n x.head x.inner
  whole-good {d} {kind} {name} {len} {at} {n} w =
      let s = w.is in
      let t = of-got w.read (tag_is form doc room d kind name len at n w.pos w.le) in
      record { kind_is = t.kind_is; name-is = t.name-is; len_is = t.len_is; sort = t.sort; fair = t.inner; valid = s.is.valid; deep = s.is.deep; fits = s.fits }

  -- a name
  good-name : {at kind : ℕ} {s : Span} {earlier : Forest} → HeadOf form doc room at kind s earlier → GoodName s.start s.size earlier
  good-name h = record { within = h.in_start; text = h.is.text; new = h.new }

  -- after a tag that is begun nothing is kept
  begun-tags : (d k c n : ℕ) (b : Kept) → n ≤ room → GoodBegun d k 0 0 n b → GoodTags d k (suc c) n b.forest
  begun-tags d k c n b l (inl e) = rw e (no-tags d k (suc c) n l)
  begun-tags d k c n b l (inr (h, inner, e, g)) = rw e (more-tags g (no-tags d k c (n + 1 + size inner) g.fits))

  begun-entries : (d kind name len n : ℕ) (earlier : Forest) (b : Kept) → n ≤ room → GoodName name len earlier → GoodBegun d kind name len n b → GoodEntries d n earlier b.forest
  begun-entries d kind name len n earlier b l i (inl e) = rw e (no-entries d n earlier l)
  begun-entries d kind name len n earlier b l i (inr (h, inner, e, g)) =
      rw e (more-entries i g (no-entries d (n + 1 + size inner) (earlier ⊕ node h inner none) g.fits))

  pub good-rules : Rules form doc room (λ d k c at n b. GoodTags d k c n b.forest) (λ d at n earlier b. GoodEntries d n earlier b.forest)
      (λ d kind name len at n b. GoodBegun d kind name len n b)
  good-rules = record {
    no-element = λ d k c at n w l r. no-tags d k (suc c) n r;
    begun-element = λ d k c at n b w l r g. begun-tags d k c n b r g;
    whole-element = λ d k c at n x later w g. more-tags (whole-good w) g;
    no-entry = λ d at n p earlier l e r. no-entries d n earlier r;
    begun-entry = λ d kind at n s earlier b h w r g. begun-entries d kind s.start s.size n earlier b r (good-name h) g;
    whole-entry = λ d kind at n s earlier x later h w g. more-entries (good-name h) (whole-good w) g;
    no-leaf = λ d kind name len at n w h. inl refl;
    no-list = λ d name len at n p w e. inl refl;
    open-list = λ d name len at n h k w e i l r g. inr (_, _, refl, open-list d h.kind h.count n name len k.forest i.small g);
    open-compound = λ d name len at n k w r g. inr (_, _, refl, open-compound d n name len k.forest g);
  }
