-- What is kept of a tree by the bytes of its layout: a tag that is whole is kept as it is, and what is kept begins the tree.
-- Assumes nothing.
use Prim.Native.Nat.{ℕ, ◌+◌, ◌-◌, ◌≤◌, ◌<◌}
use mathlib.Core.Bool.{Bool, true, false, ◌&&◌}
use mathlib.Core.Logic.{◌⊎◌, inl, inr}
use mathlib.Core.List.{List, [], ◌++◌}
use mathlib.Core.Path.{◌≡◌, refl, sym, ap, subst, ◌∙◌}
use native.Mathlib.Omega.{arith}
use lib.Dec.{ltb, leb, eqb}
use borrow.Author.Tests.{lt-ltb, le-leb, lt-leb, leb-true, leb-false}
use lib.ListN.{length, length-append}
use Rattle.form.specs.Form.{Form}
use Rattle.form.specs.Numbers.{bytes_in, bits_of}
use Rattle.form.specs.Tree.{Tag, Tags, Entries, byte, short, int, long, float, double, byte_array, string, list, compound, int_array, long_array, nil, more, ended, entry, kind_of, many, tag_count}
use Rattle.form.specs.Layout.{ints_bytes_in, string_bytes_in, payload_in, element_bytes_in, entry_bytes_in}
use Rattle.demands.specs.Rescue.{counts, cut_tag, cut_tags, cut_entries, tag_lines, element_lines, entry_lines, BeginsTag, BeginsTags, BeginsEntries}
use Rattle.form.proofs.Orders.{bytes-length}
use Rattle.form.proofs.Picks.{differ, and_right}
use Rattle.demands.proofs.Tests.{and_both}
use Rattle.demands.proofs.Fields.{string-length}

-- every payload has a byte
pub payload-some : (form : Form) (t : Tag) → 0 < length (payload_in form t)
unfolding payload_in
payload-some form (byte v) = omega (arith, bytes-length form.order 1 (bits_of 1 v))
payload-some form (short v) = omega (arith, bytes-length form.order 2 (bits_of 2 v))
payload-some form (int v) = omega (arith, bytes-length form.order 4 (bits_of 4 v))
payload-some form (long v) = omega (arith, bytes-length form.order 8 (bits_of 8 v))
payload-some form (float b) = omega (arith, bytes-length form.order 4 b)
payload-some form (double b) = omega (arith, bytes-length form.order 8 b)
payload-some form (byte_array vs) = omega (arith, bytes-length form.order 4 (length vs), length-append (bytes_in form.order 4 (length vs)) (ints_bytes_in form 1 vs))
payload-some form (string s) = omega (arith, string-length form s)
payload-some form (list ts) = omega arith
payload-some form (compound ended) = omega arith
payload-some form (compound (entry n t es)) = omega arith
payload-some form (int_array vs) = omega (arith, bytes-length form.order 4 (length vs), length-append (bytes_in form.order 4 (length vs)) (ints_bytes_in form 4 vs))
payload-some form (long_array vs) = omega (arith, bytes-length form.order 4 (length vs), length-append (bytes_in form.order 4 (length vs)) (ints_bytes_in form 8 vs))

pub list_length : (form : Form) (ts : Tags) → length (payload_in form (list ts)) ≡ 5 + length (element_bytes_in form ts)
unfolding payload_in
list_length form ts = omega (arith, bytes-length form.order 4 (many ts), length-append (bytes_in form.order 4 (many ts)) (element_bytes_in form ts))

pub entry_length : (form : Form) (n : List ℕ) (t : Tag) (es : Entries) → length (entry_bytes_in form (entry n t es)) ≡ 3 + length n + (length (payload_in form t) + length (entry_bytes_in form es))
unfolding payload_in
entry_length form n t es = omega (arith, string-length form n, length-append (string_bytes_in form n) (payload_in form t ++ entry_bytes_in form es), length-append (payload_in form t) (entry_bytes_in form es))

-- a whole tag counts
pub counts_whole : (form : Form) (t : Tag) (m : ℕ) → length (payload_in form t) ≤ m → counts form t m ≡ true
unfolding counts kind_of
counts_whole form (byte v) m h = le-leb _ m h
counts_whole form (short v) m h = le-leb _ m h
counts_whole form (int v) m h = le-leb _ m h
counts_whole form (long v) m h = le-leb _ m h
counts_whole form (float b) m h = le-leb _ m h
counts_whole form (double b) m h = le-leb _ m h
counts_whole form (byte_array vs) m h = le-leb _ m h
counts_whole form (string s) m h = le-leb _ m h
counts_whole form (list ts) m h = le-leb 5 m (omega (arith, list_length form ts))
counts_whole form (compound es) m h = refl
counts_whole form (int_array vs) m h = le-leb _ m h
counts_whole form (long_array vs) m h = le-leb _ m h

-- where no byte is left nothing is kept
pub no-tags : (form : Form) (ts : Tags) (m : ℕ) → m ≡ 0 → cut_tags form ts m ≡ nil
unfolding cut_tags
no-tags form nil m e = refl
no-tags form (more t ts) m e = rw e refl

pub no-entries : (form : Form) (es : Entries) (m : ℕ) → m ≡ 0 → cut_entries form es m ≡ ended
unfolding cut_entries
no-entries form ended m e = refl
no-entries form (entry n t es) m e = rw (lt-leb (3 + length n) m (omega arith)) refl

-- what is kept of more than nothing, test by test
module _ (form : Form) (t : Tag) (ts : Tags) (m : ℕ) where
  pub tags-none : (ltb 0 m && counts form t m) ≡ false → cut_tags form (more t ts) m ≡ nil
  unfolding cut_tags
  tags-none e = rw e refl

  pub tags-some : (ltb 0 m && counts form t m) ≡ true → cut_tags form (more t ts) m ≡ more (cut_tag form t m) (cut_tags form ts (m - length (payload_in form t)))
  unfolding cut_tags
  tags-some e = rw e refl

module _ (form : Form) (n : List ℕ) (t : Tag) (es : Entries) (m : ℕ) where
  pub entries_none : (leb (3 + length n) m && counts form t (m - (3 + length n))) ≡ false → cut_entries form (entry n t es) m ≡ ended
  unfolding cut_entries
  entries_none e = rw e refl

  pub entries-some : (leb (3 + length n) m && counts form t (m - (3 + length n))) ≡ true
      → cut_entries form (entry n t es) m ≡ entry n (cut_tag form t (m - (3 + length n))) (cut_entries form es (m - (3 + length n) - length (payload_in form t)))
  unfolding cut_entries
  entries-some e = rw e refl

-- the lines, test by test
module _ (form : Form) (t : Tag) (ts : Tags) (m n : ℕ) where
  pub lines-past : length (payload_in form t) ≤ m → element_lines form (more t ts) m n ≡ element_lines form ts (m - length (payload_in form t)) (n + tag_count t)
  unfolding element_lines
  lines-past l = rw (le-leb (length (payload_in form t)) m l) refl

  module _ (l : m < length (payload_in form t)) where
    pub lines-here : (ltb 0 m && counts form t m) ≡ true → element_lines form (more t ts) m n ≡ tag_lines form t m n
    unfolding element_lines
    lines-here e = rw (lt-leb (length (payload_in form t)) m l, e) refl

    pub lines_none : (ltb 0 m && counts form t m) ≡ false → element_lines form (more t ts) m n ≡ []
    unfolding element_lines
    lines_none e = rw (lt-leb (length (payload_in form t)) m l, e) refl

pub no_lines : (form : Form) (ts : Tags) (m n : ℕ) → m ≡ 0 → element_lines form ts m n ≡ []
unfolding element_lines
no_lines form nil m n e = refl
no_lines form (more t ts) m n e = let s = payload-some form t in lines_none form t ts m n (omega arith) (rw e refl)

module _ (form : Form) (name : List ℕ) (t : Tag) (es : Entries) (m n : ℕ) where
  pub entry-lines-past : 3 + length name + length (payload_in form t) ≤ m
      → entry_lines form (entry name t es) m n ≡ entry_lines form es (m - (3 + length name) - length (payload_in form t)) (n + tag_count t)
  unfolding entry_lines
  entry-lines-past l = rw (le-leb (3 + length name + length (payload_in form t)) m l) refl

  module _ (l : m < 3 + length name + length (payload_in form t)) where
    pub entry-lines-here : (leb (3 + length name) m && counts form t (m - (3 + length name))) ≡ true → entry_lines form (entry name t es) m n ≡ tag_lines form t (m - (3 + length name)) n
    unfolding entry_lines
    entry-lines-here e = rw (lt-leb (3 + length name + length (payload_in form t)) m l, e) refl

    pub entry-lines-none : (leb (3 + length name) m && counts form t (m - (3 + length name))) ≡ false → entry_lines form (entry name t es) m n ≡ []
    unfolding entry_lines
    entry-lines-none e = rw (lt-leb (3 + length name + length (payload_in form t)) m l, e) refl

-- whole tags are kept as they are
mutual
  unfolding cut_tag payload_in

  pub tag-whole : (form : Form) (t : Tag) (m : ℕ) → length (payload_in form t) ≤ m → cut_tag form t m ≡ t
  tag-whole form (byte v) m h = refl
  tag-whole form (short v) m h = refl
  tag-whole form (int v) m h = refl
  tag-whole form (long v) m h = refl
  tag-whole form (float b) m h = refl
  tag-whole form (double b) m h = refl
  tag-whole form (byte_array vs) m h = refl
  tag-whole form (string s) m h = refl
  tag-whole form (list ts) m h = ap list (tags-whole form ts (m - 5) (omega (arith, list_length form ts)))
  tag-whole form (compound es) m h = ap compound (entries-whole form es m h)
  tag-whole form (int_array vs) m h = refl
  tag-whole form (long_array vs) m h = refl

  pub tags-whole : (form : Form) (ts : Tags) (m : ℕ) → length (element_bytes_in form ts) ≤ m → cut_tags form ts m ≡ ts
  tags-whole form nil m h = refl
  tags-whole form (more t ts) m h =
      let l = length-append (payload_in form t) (element_bytes_in form ts) in
      let s = payload-some form t in
      tags-some form t ts m (and_both (lt-ltb 0 m (omega arith)) (counts_whole form t m (omega arith)))
      ∙ (λ i. more (tag-whole form t m (omega arith) i) (tags-whole form ts (m - length (payload_in form t)) (omega arith) i))

  pub entries-whole : (form : Form) (es : Entries) (m : ℕ) → length (entry_bytes_in form es) ≤ m → cut_entries form es m ≡ es
  entries-whole form ended m h = refl
  entries-whole form (entry n t es) m h =
      let l = entry_length form n t es in
      entries-some form n t es m (and_both (le-leb (3 + length n) m (omega arith)) (counts_whole form t (m - (3 + length n)) (omega arith)))
      ∙ (λ i. entry n (tag-whole form t (m - (3 + length n)) (omega arith) i) (entries-whole form es (m - (3 + length n) - length (payload_in form t)) (omega arith) i))

-- a tag that holds no tags counts only when it is whole
leaf-counts : (form : Form) (t : Tag) (m : ℕ) → eqb (kind_of t) 9 ≡ false → eqb (kind_of t) 10 ≡ false → counts form t m ≡ leb (length (payload_in form t)) m
unfolding counts
leaf-counts form t m a b = rw (a, b) refl

-- one more that is kept, whole or begun
some-tags : (form : Form) (t : Tag) (ts : Tags) (m : ℕ) → (counts form t m ≡ true → m < length (payload_in form t) → BeginsTag (cut_tag form t m) t)
    → BeginsTags (cut_tags form ts (m - length (payload_in form t))) ts
    → BeginsTags (cut_tags form (more t ts) m) (more t ts)
unfolding BeginsTag
some-tags form t ts m b r = go (ltb 0 m && counts form t m) refl
  where
    last : (w : Bool) → leb (length (payload_in form t)) m ≡ w → counts form t m ≡ true
        → ((cut_tag form t m ≡ t) × BeginsTags (cut_tags form ts (m - length (payload_in form t))) ts) ⊎ (BeginsTag (cut_tag form t m) t × (cut_tags form ts (m - length (payload_in form t)) ≡ nil))
    last true w c = inl (tag-whole form t m (leb-true _ m w), r)
    last false w c = let l = leb-false (length (payload_in form t)) m w in inr (b c l, no-tags form ts (m - length (payload_in form t)) (omega arith))

    go : (c : Bool) → (ltb 0 m && counts form t m) ≡ c → BeginsTags (cut_tags form (more t ts) m) (more t ts)
    go false e = subst (λ k. BeginsTags k (more t ts)) (sym (tags-none form t ts m e)) tt
    go true e = subst (λ k. BeginsTags k (more t ts)) (sym (tags-some form t ts m e)) (t, ts, refl, last (leb (length (payload_in form t)) m) refl (and_right (ltb 0 m) (counts form t m) e))

some-entries : (form : Form) (n : List ℕ) (t : Tag) (es : Entries) (m : ℕ)
    → (counts form t (m - (3 + length n)) ≡ true → m - (3 + length n) < length (payload_in form t) → BeginsTag (cut_tag form t (m - (3 + length n))) t)
    → BeginsEntries (cut_entries form es (m - (3 + length n) - length (payload_in form t))) es → BeginsEntries (cut_entries form (entry n t es) m) (entry n t es)
unfolding BeginsTag
some-entries form n t es m b r = go (leb (3 + length n) m && counts form t (m - (3 + length n))) refl
  where
    k : ℕ
    k = m - (3 + length n)

    last : (w : Bool) → leb (length (payload_in form t)) k ≡ w → counts form t k ≡ true
        → ((cut_tag form t k ≡ t) × BeginsEntries (cut_entries form es (k - length (payload_in form t))) es)
        ⊎ (BeginsTag (cut_tag form t k) t × (cut_entries form es (k - length (payload_in form t)) ≡ ended))
    last true w c = inl (tag-whole form t k (leb-true _ k w), r)
    last false w c = let l = leb-false (length (payload_in form t)) k w in inr (b c l, no-entries form es (k - length (payload_in form t)) (omega arith))

    go : (c : Bool) → (leb (3 + length n) m && counts form t k) ≡ c → BeginsEntries (cut_entries form (entry n t es) m) (entry n t es)
    go false e = subst (λ f. BeginsEntries f (entry n t es)) (sym (entries_none form n t es m e)) tt
    go true e = subst (λ f. BeginsEntries f (entry n t es)) (sym (entries-some form n t es m e))
        (t, es, refl, last (leb (length (payload_in form t)) k) refl (and_right (leb (3 + length n) m) (counts form t k) e))

-- what is kept begins the tree
mutual
  unfolding cut_tag payload_in BeginsTag kind_of

  tag-begins : (form : Form) (t : Tag) (m : ℕ) → counts form t m ≡ true → m < length (payload_in form t) → BeginsTag (cut_tag form t m) t
  tag-begins form (byte v) m c l = differ (sym c ∙ leaf-counts form (byte v) m refl refl ∙ lt-leb _ m l)
  tag-begins form (short v) m c l = differ (sym c ∙ leaf-counts form (short v) m refl refl ∙ lt-leb _ m l)
  tag-begins form (int v) m c l = differ (sym c ∙ leaf-counts form (int v) m refl refl ∙ lt-leb _ m l)
  tag-begins form (long v) m c l = differ (sym c ∙ leaf-counts form (long v) m refl refl ∙ lt-leb _ m l)
  tag-begins form (float b) m c l = differ (sym c ∙ leaf-counts form (float b) m refl refl ∙ lt-leb _ m l)
  tag-begins form (double b) m c l = differ (sym c ∙ leaf-counts form (double b) m refl refl ∙ lt-leb _ m l)
  tag-begins form (byte_array vs) m c l = differ (sym c ∙ leaf-counts form (byte_array vs) m refl refl ∙ lt-leb _ m l)
  tag-begins form (string s) m c l = differ (sym c ∙ leaf-counts form (string s) m refl refl ∙ lt-leb _ m l)
  tag-begins form (list ts) m c l = (ts, refl, tags-begin form ts (m - 5))
  tag-begins form (compound es) m c l = (es, refl, entries-begin form es m)
  tag-begins form (int_array vs) m c l = differ (sym c ∙ leaf-counts form (int_array vs) m refl refl ∙ lt-leb _ m l)
  tag-begins form (long_array vs) m c l = differ (sym c ∙ leaf-counts form (long_array vs) m refl refl ∙ lt-leb _ m l)

  tags-begin : (form : Form) (ts : Tags) (m : ℕ) → BeginsTags (cut_tags form ts m) ts
  tags-begin form nil m = tt
  tags-begin form (more t ts) m = some-tags form t ts m (λ c l. tag-begins form t m c l) (tags-begin form ts (m - length (payload_in form t)))

  pub entries-begin : (form : Form) (es : Entries) (m : ℕ) → BeginsEntries (cut_entries form es m) es
  entries-begin form ended m = tt
  entries-begin form (entry n t es) m = some-entries form n t es m (λ c l. tag-begins form t (m - (3 + length n)) c l) (entries-begin form es (m - (3 + length n) - length (payload_in form t)))
