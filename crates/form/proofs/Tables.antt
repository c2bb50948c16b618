-- Laws of tables (rule 7): where the words of records stand, what a table's tree says of each record, and that there is one tree.
-- Assumes nothing.
use Prim.Native.Nat.{ℕ, suc, ◌+◌, ◌*◌, ◌≤◌, ◌<◌}
use mathlib.Core.Path.{◌≡◌, refl, sym, ap, subst, ◌∙◌}
use mathlib.Core.Logic.{◌⊎◌, inl, inr}
use mathlib.Core.List.{List, [], ◌∷◌, ◌++◌, append_assoc, append-nil}
use mathlib.Core.Bool.{Bool, false}
use native.Mathlib.Omega.{arith}
use native.Mathlib.Decide.{ℕ_discrete, dec_lt}
use lib.ListN.{length, get_or, take, drop, length-drop, replicate, length-replicate, get_or-eq_default}
use lib.Seq.{drop-cons, drop-drop, drop_at, get_or-drop, length-take-le}
use lib.Dec.{eqb}
use Rattle.form.specs.Answer.{record_limit}
use Rattle.form.specs.Spans.{over}
use Rattle.form.specs.Table.{Head, Forest, none, node, size, ◌⊕◌, words, word, head_of, flat, wrote}
use Rattle.form.specs.Records.{Stands, Sits, Under}
use Rattle.form.specs.Tables.{LeafIs, ContainerIs, NameIs, Fair, IsTable, Within}
use Rattle.form.proofs.Picks.{differ}
use Rattle.form.proofs.Table.{flat-length}
use Rattle.form.proofs.Leaves.{held-kind, leaf-kind}
use Rattle.form.proofs.Records.{sits-at, one-forest}

-- Past a table's end words are 0.
pub word-past : (t : List ℕ) (n : ℕ) → length t ≤ 9 * n → word t n 0 ≡ 0
word-past t n l = get_or-eq_default t 0 {n = 9 * n + 0} (omega arith)

-- ---- where the words of records stand

-- An empty row of records stands anywhere.
pub sits-none : (t : List ℕ) (n : ℕ) → Sits t n none
unfolding Sits
sits-none t n = tt

module _ (t : List ℕ) (n : ℕ) (h : Head) (inner later : Forest) where
  -- The first record, those in it and those after it stand together.
  pub sits-node : Stands t n h (n + 1 + size inner) → Sits t (n + 1) inner → Sits t (n + 1 + size inner) later → Sits t n (node h inner later)
  unfolding Sits
  sits-node s i l = (s, i, l)

  module _ (s : Sits t n (node h inner later)) where
    -- The first record's words but the ninth.
    pub sits-first : Stands t n h (n + 1 + size inner)
    unfolding Sits
    sits-first = s.0

    -- The records in it stand right after it.
    pub sits-inner : Sits t (n + 1) inner
    unfolding Sits
    sits-inner = s.1

    -- Those after it stand where it ends.
    pub sits-later : Sits t (n + 1 + size inner) later
    unfolding Sits
    sits-later = s.2

    -- The first record alone, with those in it.
    pub sits-alone : Sits t n (node h inner none)
    unfolding Sits
    sits-alone = (s.0, s.1, tt)

-- ---- their parents

-- An empty row of records has any parent.
pub under_none : (t : List ℕ) (p n : ℕ) → Under t p n none
unfolding Under
under_none t p n = tt

module _ (t : List ℕ) (p n : ℕ) (h : Head) (inner later : Forest) where
  -- The first record has the parent p, those in it the first, those after it p too.
  pub under-node : word t n 8 ≡ p → Under t n (n + 1) inner → Under t p (n + 1 + size inner) later → Under t p n (node h inner later)
  unfolding Under
  under-node e i l = (e, i, l)

  module _ (u : Under t p n (node h inner later)) where
    -- The ninth word of the first record.
    pub under_first : word t n 8 ≡ p
    unfolding Under
    under_first = u.0

    -- The first record is the parent of those in it.
    pub under-inner : Under t n (n + 1) inner
    unfolding Under
    under-inner = u.1

    -- Those after it have its parent.
    pub under-later : Under t p (n + 1 + size inner) later
    unfolding Under
    under-later = u.2

    -- The first record alone, with those in it.
    pub under-alone : Under t p n (node h inner none)
    unfolding Under
    under-alone = (u.0, u.1, tt)

-- ---- room, and the words

-- A table is long enough for the records that stand in it.
pub sits-room : (t : List ℕ) (n : ℕ) (f : Forest) → Sits t n f → 9 * n ≤ length t → 9 * (n + size f) ≤ length t
unfolding Sits size
sits-room t n none s l = omega arith
sits-room t n (node h inner later) s l =
    let r = s.0.room in
    let i = sits-room t (n + 1) inner s.1 (omega arith) in
    omega (arith, sits-room t (n + 1 + size inner) later s.2 (omega arith))

-- Records one after the other stand so.
pub sits-append : (t : List ℕ) (n : ℕ) (f g : Forest) → Sits t n f → Sits t (n + size f) g → Sits t n (f ⊕ g)
unfolding Sits size ◌⊕◌
sits-append t n none g s r = let z : n + 0 ≡ n = omega arith in rw z at r
sits-append t n (node h inner later) g s r =
    let z : n + (1 + size inner + size later) ≡ n + 1 + size inner + size later = omega arith in
    (s.0, s.1, sits-append t (n + 1 + size inner) later g s.2 (rw z at r))

-- And are found so.
pub sits-split : (t : List ℕ) (n : ℕ) (f g : Forest) → Sits t n (f ⊕ g) → Sits t n f × Sits t (n + size f) g
unfolding Sits size ◌⊕◌
sits-split t n none g s = let z : n + 0 ≡ n = omega arith in (tt, rw z s)
sits-split t n (node h inner later) g s =
    let z : n + (1 + size inner + size later) ≡ n + 1 + size inner + size later = omega arith in
    let r = sits-split t (n + 1 + size inner) later g s.2 in
    ((s.0, s.1, r.0), rw z r.1)

-- One word comes first from its place on.
next_word : (t : List ℕ) (a b : ℕ) → a < length t → suc a ≡ b → drop a t ≡ get_or t a 0 ∷ drop b t
next_word t a b h e = drop-cons t a 0 h ∙ ap (λ (k : ℕ). get_or t a 0 ∷ drop k t) e

-- So do the nine words of a record.
drop-nine : (t : List ℕ) (n : ℕ) (h : Head) (e p : ℕ) → Stands t n h e → word t n 8 ≡ p → drop (9 * n) t ≡ words h e p ++ drop (9 * (n + 1)) t
drop-nine t n h e p s q =
    let r = s.room in
    let z : 9 * n ≡ 9 * n + 0 = omega arith in
    rw (
      z,
      next_word t (9 * n + 0) (9 * n + 1) (omega arith) (omega arith),
      next_word t (9 * n + 1) (9 * n + 2) (omega arith) (omega arith),
      next_word t (9 * n + 2) (9 * n + 3) (omega arith) (omega arith),
      next_word t (9 * n + 3) (9 * n + 4) (omega arith) (omega arith),
      next_word t (9 * n + 4) (9 * n + 5) (omega arith) (omega arith),
      next_word t (9 * n + 5) (9 * n + 6) (omega arith) (omega arith),
      next_word t (9 * n + 6) (9 * n + 7) (omega arith) (omega arith),
      next_word t (9 * n + 7) (9 * n + 8) (omega arith) (omega arith),
      next_word t (9 * n + 8) (9 * (n + 1)) (omega arith) (omega arith),
      s.kind,
      s.name,
      s.name_length,
      s.start,
      s.size,
      s.count,
      s.list_kind,
      s.end,
      q,
    )
    refl

-- Where records stand, the words are theirs.
pub sits-words : (t : List ℕ) (p n : ℕ) (f : Forest) → Sits t n f → Under t p n f → flat p n f ++ drop (9 * (n + size f)) t ≡ drop (9 * n) t
unfolding Sits Under flat size
sits-words t p n none s u = let z : n + 0 ≡ n = omega arith in rw z refl
sits-words t p n (node h inner later) s u =
    let z : n + (1 + size inner + size later) ≡ n + 1 + size inner + size later = omega arith in
    let rest = drop (9 * (n + 1 + size inner + size later)) t in
    rw z
    (ap (λ (l : List ℕ). words h (n + 1 + size inner) p ++ l)
    (append_assoc (flat n (n + 1) inner) (flat p (n + 1 + size inner) later) rest
    ∙ ap (λ (l : List ℕ). flat n (n + 1) inner ++ l) (sits-words t p (n + 1 + size inner) later s.2 u.2)
    ∙ sits-words t n (n + 1) inner s.1 u.1)
    ∙ sym (drop-nine t n h (n + 1 + size inner) p s.0 u.0))

-- Where the words are those of a record, it stands there.
stands : (t : List ℕ) (n : ℕ) (h : Head) (e m : ℕ) (rest : List ℕ) → drop (9 * n) t ≡ words h e m ++ rest → Stands t n h e × (word t n 8 ≡ m)
stands t n h e m rest p = (
  record {
    room = omega (arith, length-drop (9 * n) t, ap length p);
    kind = at 0;
    name = at 1;
    name_length = at 2;
    start = at 3;
    size = at 4;
    count = at 5;
    list_kind = at 6;
    end = at 7;
  },
  at 8,
)
  where
    at : (k : ℕ) → word t n k ≡ get_or (words h e m ++ rest) k 0
    at k = sym (get_or-drop (9 * n) t k 0) ∙ ap (λ (l : List ℕ). get_or l k 0) p

-- Where the words are those of some records, they stand there.
pub words-sit : (t : List ℕ) (m n : ℕ) (f : Forest) (rest : List ℕ) → drop (9 * n) t ≡ flat m n f ++ rest
    → Sits t n f × Under t m n f × (drop (9 * (n + size f)) t ≡ rest)
unfolding Sits Under flat size
words-sit t m n none rest p = let z : n + 0 ≡ n = omega arith in (tt, tt, rw z p)
words-sit t m n (node h inner later) rest p =
    let z : n + (1 + size inner + size later) ≡ n + 1 + size inner + size later = omega arith in
    let y : 9 * (n + 1) ≡ 9 * n + 9 = omega arith in
    let a : List ℕ = flat n (n + 1) inner in
    let b : List ℕ = flat m (n + 1 + size inner) later in
    let q : drop (9 * n) t ≡ words h (n + 1 + size inner) m ++ (a ++ (b ++ rest)) = p ∙ ap (λ (l : List ℕ). words h (n + 1 + size inner) m ++ l) (append_assoc a b rest) in
    let r : drop (9 * (n + 1)) t ≡ a ++ (b ++ rest) = rw y (sym (drop-drop 9 (9 * n) t) ∙ ap (drop 9) q) in
    let i = words-sit t n (n + 1) inner (b ++ rest) r in
    let l = words-sit t m (n + 1 + size inner) later rest i.2 in
    let s = stands t n h (n + 1 + size inner) m (a ++ (b ++ rest)) q in
    ((s.0, i.0, l.0), (s.1, i.1, l.1), rw z l.2)

-- What was written stands there.
pub wrote-sits : (t : List ℕ) (p n : ℕ) (f : Forest) → 9 * n ≤ length t → Sits (wrote t p n f) n f
unfolding wrote over
wrote-sits t p n f l =
    let rest = drop (9 * n + length (flat p n f)) t in
    (words-sit (wrote t p n f) p n f rest (drop_at (take (9 * n) t) (flat p n f ++ rest) (9 * n) (length-take-le (9 * n) t l))).0

-- ---- there is one tree

-- Records that stand at one place, as many, are the same.
pub same-forest : (t : List ℕ) (n : ℕ) (f g : Forest) → Sits t n f → Sits t n g → size f ≡ size g → f ≡ g
same-forest t n f g s r e = one-forest (word t) n f g (sits-at t n f s) (sits-at t n g r) e

-- Words are those of one forest at most.
pub flat-injective : (p n : ℕ) (f g : Forest) → flat p n f ≡ flat p n g → f ≡ g
flat-injective p n f g e = same-forest t n f g (sits f refl) (sits g e) (omega (arith, flat-length p n f, flat-length p n g, ap length e))
  where
    t : List ℕ
    t = replicate (9 * n) 0 ++ flat p n f

    sits : (k : Forest) → flat p n f ≡ flat p n k → Sits t n k
    sits k q = (words-sit t p n k [] (drop_at (replicate (9 * n) 0) (flat p n f) (9 * n) (length-replicate {A = ℕ} (9 * n) 0) ∙ q ∙ sym (append-nil (flat p n k)))).0

-- ---- tables

module _ (d : ℕ) (w : List ℕ) (t : IsTable d w) where
  -- The words of a table's tree stand in it from record 0 on.
  pub table-sits : Sits w 0 (node t.head t.inner none)
  table-sits = (words-sit w 0 0 (node t.head t.inner none) [] (t.these ∙ sym (append-nil (flat 0 0 (node t.head t.inner none))))).0

  -- Its ninth words name the parents.
  pub table-under : Under w 0 0 (node t.head t.inner none)
  table-under = (words-sit w 0 0 (node t.head t.inner none) [] (t.these ∙ sym (append-nil (flat 0 0 (node t.head t.inner none))))).1

  -- A table has nine words to a record.
  pub table-length : length w ≡ 9 * (1 + size t.inner)
  unfolding size
  table-length = omega (arith, ap length t.these, flat-length 0 0 (node t.head t.inner none))

  -- No more records than the limit, where the words are within theirs.
  pub table-records : Within d w → 1 + size t.inner ≤ record_limit
  table-records h = let l = h.words in omega (arith, table-length)

-- Words are those of one tree at most, whatever the document.
pub one-tree : (d d' : ℕ) (w : List ℕ) (s : IsTable d w) (t : IsTable d' w) → (s.head ≡ t.head) × (s.inner ≡ t.inner)
one-tree d d' w s t =
    let e : node s.head s.inner none ≡ node t.head t.inner none = flat-injective 0 0 (node s.head s.inner none) (node t.head t.inner none) (sym s.these ∙ t.these) in
    (cc, cc)

-- ---- what rules 4 and 6 say of records side by side

-- An empty row of records is fair.
pub fair-none : (d : ℕ) (l : Bool) → Fair d l none
unfolding Fair
fair-none d l = tt

-- A record that is no element may have any name that lies in the document.
pub name-within : (d : ℕ) (h : Head) → h.name + h.name_length ≤ d → NameIs d false h
name-within d h w = record { within = w; nameless = λ e. differ (sym e) }

module _ (d : ℕ) (l : Bool) (h : Head) (inner later : Forest) where
  -- The first record, those in it and those after it are fair together.
  pub fair-node : NameIs d l h → LeafIs d h inner ⊎ ContainerIs h inner → Fair d (eqb h.kind 9) inner → Fair d l later → Fair d l (node h inner later)
  unfolding Fair
  fair-node n s i r = (n, s, i, r)

  module _ (f : Fair d l (node h inner later)) where
    -- The first record's name.
    pub fair-name : NameIs d l h
    unfolding Fair
    fair-name = f.0

    -- The first record holds none, or is a list or a compound.
    pub fair-first : LeafIs d h inner ⊎ ContainerIs h inner
    unfolding Fair
    fair-first = f.1

    -- Its kind is 1 to 12.
    pub fair-kind : (0 < h.kind) × (h.kind ≤ 12)
    fair-kind = go fair-first
      where
        held : (h.kind ≡ 9) ⊎ (h.kind ≡ 10) → (0 < h.kind) × (h.kind ≤ 12)
        held (inl p) = (omega arith, omega arith)
        held (inr p) = (omega arith, omega arith)

        go : LeafIs d h inner ⊎ ContainerIs h inner → (0 < h.kind) × (h.kind ≤ 12)
        go (inl is) = leaf-kind h.kind h.size h.count is.fits
        go (inr is) = held (held-kind h.kind is.kind)

    -- The records in it.
    pub fair-inner : Fair d (eqb h.kind 9) inner
    unfolding Fair
    fair-inner = f.2

    -- The records after it.
    pub fair-later : Fair d l later
    unfolding Fair
    fair-later = f.3

    -- The first record alone, with those in it.
    pub fair-alone : Fair d l (node h inner none)
    unfolding Fair
    fair-alone = (f.0, f.1, f.2, tt)

-- Records one after the other are fair together.
pub fair-append : (d : ℕ) (l : Bool) (f g : Forest) → Fair d l f → Fair d l g → Fair d l (f ⊕ g)
unfolding Fair ◌⊕◌
fair-append d l none g f r = r
fair-append d l (node h inner later) g f r = (f.0, f.1, f.2, fair-append d l later g f.3 r)

-- And each for itself.
pub fair-split : (d : ℕ) (l : Bool) (f g : Forest) → Fair d l (f ⊕ g) → Fair d l f × Fair d l g
unfolding Fair ◌⊕◌
fair-split d l none g r = (tt, r)
fair-split d l (node h inner later) g r = let s = fair-split d l later g r.3 in ((r.0, r.1, r.2, s.0), s.1)

-- ---- each record by its number

-- The words of a record that stands in a table are its head's.
pub head-of : (t : List ℕ) (n : ℕ) (h : Head) (e : ℕ) → Stands t n h e → head_of t n ≡ h
head-of t n h e s =
    λ i. record {
      kind = s.kind i;
      name = s.name i;
      name_length = s.name_length i;
      start = s.start i;
      size = s.size i;
      count = s.count i;
      list_kind = s.list_kind i;
    }

-- Record i of n, with the records in it: its words stand there, and it is fair; `element` says whether it is an element of a list.
pub record RecordAt (d : ℕ) (t : List ℕ) (n i : ℕ) : Type 0 where
  pub head : Head
  pub inner : Forest
  pub element : Bool
  pub parent : ℕ
  pub sits : Sits t i (node head inner none)
  pub under : Under t parent i (node head inner none)
  pub fair : Fair d element (node head inner none)
  pub within : i + 1 + size inner ≤ n

-- Each number among those of fair records is a record's.
pub record-in : (d : ℕ) (t : List ℕ) (to : ℕ) (l : Bool) (p n : ℕ) (f : Forest) → Sits t n f → Under t p n f → Fair d l f → n + size f ≤ to
    → (i : ℕ) → n ≤ i → i < n + size f → RecordAt d t to i
unfolding size
record-in d t to l p n none s u f le i lo hi = absurd (omega arith)
record-in d t to l p n (node h inner later) s u f le i lo hi =
    go (record-in d t to (eqb h.kind 9) n (n + 1) inner (sits-inner t n h inner later s) (under-inner t p n h inner later u) (fair-inner d l h inner later f))
    (record-in d t to l p (n + 1 + size inner) later (sits-later t n h inner later s) (under-later t p n h inner later u) (fair-later d l h inner later f))
    (ℕ_discrete n i) (dec_lt i (n + 1 + size inner))
  where
    go : (n + 1 + size inner ≤ to → (i : ℕ) → n + 1 ≤ i → i < n + 1 + size inner → RecordAt d t to i)
        → (n + 1 + size inner + size later ≤ to → (i : ℕ) → n + 1 + size inner ≤ i → i < n + 1 + size inner + size later → RecordAt d t to i)
        → Dec (n ≡ i) → Dec (i < n + 1 + size inner) → RecordAt d t to i
    go below after (yes g) q = subst (λ (j : ℕ). RecordAt d t to j) g (record {
      head = h;
      inner = inner;
      element = l;
      parent = p;
      sits = sits-alone t n h inner later s;
      under = under-alone t p n h inner later u;
      fair = fair-alone d l h inner later f;
      within = omega arith;
    })
    go below after (no g) (yes q) = below (omega arith) i (omega arith) q
    go below after (no g) (no q) = after (omega arith) i (omega arith) (omega arith)

-- Each number below a table's record count is a record's.
pub record-at : (d : ℕ) (w : List ℕ) (t : IsTable d w) (i : ℕ) → i < 1 + size t.inner → RecordAt d w (1 + size t.inner) i
unfolding size
record-at d w t i l =
    record-in d w (1 + size t.inner) false 0 0 (node t.head t.inner none) (table-sits d w t) (table-under d w t) t.fair (omega arith) i (omega arith) (omega arith)
