-- The walk, call by call: what noting a match does, what is found at a record, and what the loop over the records in one keeps.
-- Assumes nothing.
use Prim.Native.Nat.{ℕ, suc, ◌+◌, ◌≤◌, ◌<◌}
use mathlib.Core.Path.{◌≡◌, refl, sym, ap, ◌∙◌}
use mathlib.Core.Logic.{◌⊎◌, inl, inr}
use mathlib.Core.List.{List, [], ◌∷◌, ◌++◌}
use mathlib.Core.Bool.{Bool, true, false, ◌&&◌}
use native.Mathlib.Omega.{arith}
use lib.ListN.{length, set, length-set, length-append}
use lib.Dec.{ltb}
use borrow.Author.Tests.{lt-ltb, le-ltb, ltb-false}
use Rattle.form.specs.Answer.{pick, record_limit}
use Rattle.form.specs.Spans.{part}
use Rattle.form.specs.Table.{Forest, none, word}
use Rattle.form.specs.Paths.{Hop, Step, fits, which}
use Rattle.form.specs.Records.{record_paths}
use Rattle.form.proofs.Paths.{paths-length, which-append, which-below}
use Rattle.query_reach.specs.Levels.{name_of, hop_to, RecordIn}
use Rattle.query_reach.specs.Reached.{last_of}
use Rattle.query_reach.specs.Sets.{has, goes_on}
use Rattle.query_reach.specs.Plans.{planned, Reaches}
use Rattle.query.specs.Sides.{Side, Held, levels_below, Walkable}
use Rattle.query.specs.Walks.{put_at, noted, Walks, hit, goes_in, found_in, Done}
use Rattle.query_reach.proofs.Reached.{reaches-fits, reaches-off}
use Rattle.query.proofs.Sides.{First, first, side-none, one_side}
use Rattle.query.proofs.Levels.{levels, levels-inner, levels-later, levels-are}

-- ---- noting

module _ (c : ℕ) (l : List ℕ) where
  -- No match changes nothing.
  pub walks-none : Walks [] c l c l
  unfolding noted
  walks-none = record { counted = omega arith; listed = refl }

  -- A match is written where there is room, and only counted where there is none.
  pub walks-put : (n : ℕ) → c < length l → Walks (n ∷ []) c l (c + 1) (set l c n)
  unfolding noted put_at
  walks-put n h = record { counted = refl; listed = rw (lt-ltb c (length l) h) }

  pub walks-full : (n : ℕ) → length l ≤ c → Walks (n ∷ []) c l (c + 1) l
  unfolding noted put_at
  walks-full n h = record { counted = refl; listed = rw (le-ltb c (length l) h) }

-- The list keeps its length.
put-length : (c v : ℕ) (l : List ℕ) → length (put_at c v l) ≡ length l
unfolding put_at
put-length c v l = go (ltb c (length l))
  where
    go : (b : Bool) → length (pick b (set l c v) l) ≡ length l
    go true = length-set l c v
    go false = refl

noted-length : (c : ℕ) (vs l : List ℕ) → length (noted c vs l) ≡ length l
unfolding noted
noted-length c [] l = refl
noted-length c (v ∷ vs) l = noted-length (suc c) vs (put_at c v l) ∙ put-length c v l

walks-length : {ans : List ℕ} {c r : ℕ} {l l' : List ℕ} → Walks ans c l r l' → length l' ≡ length l
walks-length {ans} {c} {r} {l} {l'} w = ap length w.listed ∙ noted-length c ans l

-- Matches after matches.
noted-append : (c : ℕ) (xs ys l : List ℕ) → noted c (xs ++ ys) l ≡ noted (c + length xs) ys (noted c xs l)
unfolding noted
noted-append c [] ys l = let z : c + 0 ≡ c = omega arith in rw z
noted-append c (x ∷ xs) ys l =
    let z : c + suc (length xs) ≡ suc c + length xs = omega arith in
    rw z (noted-append (suc c) xs ys (put_at c x l))

pub walks-then : (xs ys : List ℕ) {c c' c'' : ℕ} {l l' l'' : List ℕ} → Walks xs c l c' l' → Walks ys c' l' c'' l'' → Walks (xs ++ ys) c l c'' l''
walks-then xs ys {c} {c'} {c''} {l} {l'} {l''} a b =
    let x = a.counted in
    let y = b.counted in
    record {
      counted = omega (arith, length-append xs ys);
      listed = b.listed ∙ rw (x, a.listed) (sym (noted-append c xs ys l));
    }

-- After its own match at most one more is counted.
pub one_more : (b : Bool) (n : ℕ) {c r : ℕ} {l l' : List ℕ} → Walks (hit b n) c l r l' → r ≤ c + 1
one_more true n w = let e = w.counted in omega arith
one_more false n w = let e = w.counted in omega arith

-- ---- whether the records in a record are looked at

module _ (set n end : ℕ) where
  -- There are some, and the set decides.
  pub goes-by-set : {b : Bool} → n + 1 < end → b ≡ goes_on set → b ≡ goes_in set n end
  goes-by-set h e = rw (lt-ltb (n + 1) end h) e

  -- There are none.
  pub goes_none : end ≤ n + 1 → false ≡ goes_in set n end
  goes_none h = rw (le-ltb (n + 1) end h)

  -- Why they are not.
  not_in : goes_in set n end ≡ false → (end ≤ n + 1) ⊎ (goes_on set ≡ false)
  not_in e = go (ltb (n + 1) end) (goes_on set) refl e
    where
      go : (a b : Bool) → ltb (n + 1) end ≡ a → (a && b) ≡ false → (end ≤ n + 1) ⊎ (b ≡ false)
      go true b x y = inr y
      go false b x y = inl (ltb-false (n + 1) end x)

-- ---- what is found

-- The first of some paths, and the others.
pub which-first : (f : List Hop → Bool) (n : ℕ) (p : List Hop) (ps : List (List Hop)) → which f n (p ∷ ps) ≡ hit (f p) n ++ which f (n + 1) ps
unfolding which
which-first f n p ps = let z : n + 1 ≡ suc n = omega arith in rw z (go (f p))
  where
    go : (b : Bool) → elim b [ true ↦ n ∷ which f (suc n) ps | false ↦ which f (suc n) ps ] ≡ hit b n ++ which f (suc n) ps
    go true = refl
    go false = refl

-- The matches of some steps among records in a record n whose path is p: those from record i on, which is number `index` in it.
abbrev found_from : List ℕ → List ℕ → List Step → ℕ → List Hop → ℕ → ℕ → Forest → List ℕ
found_from doc t ss n p i index f = which (fits ss) i (record_paths doc (word t n 0) index p f)

module _ (doc t : List ℕ) (ss : List Step) (n : ℕ) (p : List Hop) where
  -- There are no records.
  found_none : found_in doc t ss n p none ≡ []
  unfolding found_in record_paths which
  found_none = refl

  -- No path that goes on fits.
  found-off : (f : Forest) → ((h : Hop) (hs : List Hop) → fits ss (p ++ (h ∷ hs)) ≡ false) → found_in doc t ss n p f ≡ []
  unfolding found_in
  found-off f e = which-below (fits ss) doc (word t n 0) 0 (n + 1) p f e

  module _ (i index end : ℕ) (f : Forest) (x : First (length doc) t i end f) where
    abbrev path : List Hop
    path = p ++ (hop_to doc t n i index ∷ [])

    -- What is found at the first record, in it, and after it.
    found_first : found_from doc t ss n p i index f
        ≡ hit (fits ss path) i ++ (found_in doc t ss i path x.inner.forest ++ found_from doc t ss n p (word t i 7) (index + 1) x.later.forest)
    unfolding record_paths found_in
    found_first =
        let F = fits ss in
        let kind = x.stands.kind in
        let name : part doc x.head.name x.head.name_length ≡ name_of doc t i = rw (x.stands.name, x.stands.name_length) in
        let one : suc index ≡ index + 1 = omega arith in
        let inside = record_paths doc (word t i 0) 0 path x.inner.forest in
        let after = record_paths doc (word t n 0) (index + 1) p x.later.forest in
        let past : i + 1 + length inside ≡ word t i 7 = omega (arith, x.stands.end, paths-length doc (word t i 0) 0 path x.inner.forest) in
        ap (found_from doc t ss n p i index) x.is
        ∙ rw (name, ← kind, one) (which-first F i path (inside ++ after))
        ∙ ap (λ (ms : List ℕ). hit (F path) i ++ ms) (which-append F (i + 1) inside after)
        ∙ ap (λ (j : ℕ). hit (F path) i ++ (which F (i + 1) inside ++ which F j after)) past

-- ---- a record that is passed over

module _ {doc t q plan : List ℕ} {n set : ℕ} where
  -- Nothing is found in it.
  pub passed_over : {c : ℕ} {l : List ℕ} → c ≤ word t n 7 → goes_in set n (word t n 7) ≡ false → Done doc t q plan n set c l c l
  passed_over {c} {l} few e = record {
    few = few;
    walks = λ m p x g. rw (nothing m p x g (not_in set n (word t n 7) e)) (walks-none c l);
  }
    where
      nothing : (m : ℕ) (p : List Hop) → Reaches q plan m p set → (g : Held (length doc) t n) → (word t n 7 ≤ n + 1) ⊎ (goes_on set ≡ false)
          → found_in doc t (last_of (planned q plan) m) n p g.forest ≡ []
      nothing m p x g (inl le) =
          ap (found_in doc t (last_of (planned q plan) m) n p) (side-none (length doc) t (n + 1) (word t n 7) g le)
          ∙ found_none doc t (last_of (planned q plan) m) n p
      nothing m p x g (inr off) = found-off doc t (last_of (planned q plan) m) n p g.forest (reaches-off x off)

  -- The same, where two ways of the code meet.
  pub done-as : {c r r' : ℕ} {l m m' : List ℕ} → Done doc t q plan n set c l r m → m' ≡ m → r' ≡ r → Done doc t q plan n set c l r' m'
  done-as d e f = rw (e, f) d

-- ---- the loop over the records in a record

-- The set of a path gives that of the path to child i, which is number `index`.
abbrev pub HopsTo : List ℕ → List ℕ → List ℕ → List ℕ → ℕ → ℕ → ℕ → ℕ → ℕ → Type 0
HopsTo doc t q plan n i index set own = (m : ℕ) (p : List Hop) → Reaches q plan m p set → Reaches q plan m (p ++ (hop_to doc t n i index ∷ [])) own

-- What the loop keeps: what was found, then what is found in the records left, is what is found in all; and the records left have no more
-- levels than all.
pub record Going (doc t q plan : List ℕ) (n set : ℕ) (l₀ : List ℕ) (count₀ : ℕ) (l : List ℕ) (more i index : ℕ) : Type 0 where
  pub here : Side (length doc) t i (word t n 7)
  pub low : levels here.forest ≤ levels_below t n
  pub counted : more ≤ i
  pub indexed : index ≤ i
  pub long : length l ≡ length l₀
  pub goes : (m : ℕ) (p : List Hop) → Reaches q plan m p set → (g : Held (length doc) t n) (r : ℕ) (l' : List ℕ)
      → Walks (found_from doc t (last_of (planned q plan) m) n p i index here.forest) more l r l'
      → Walks (found_in doc t (last_of (planned q plan) m) n p g.forest) count₀ l₀ r l'

module _ {doc t q plan : List ℕ} {n set : ℕ} {l₀ : List ℕ} {count₀ : ℕ} (w : Walkable doc t q plan n set count₀) where
  pub going_start : Going doc t q plan n set l₀ count₀ l₀ count₀ (n + 1) 0
  going_start =
      let row = w.own.row in
      let same = levels-are (length doc) t (n + 1) (word t n 7) w.side (omega arith) in
      record {
        here = w.side;
        low = omega arith;
        counted = w.counted;
        indexed = omega arith;
        long = refl;
        goes = λ m p x g r l' v. start m p g r l' v;
      }
    where
      start : (m : ℕ) (p : List Hop) (g : Held (length doc) t n) (r : ℕ) (l' : List ℕ)
          → Walks (found_from doc t (last_of (planned q plan) m) n p (n + 1) 0 w.side.forest) count₀ l₀ r l'
          → Walks (found_in doc t (last_of (planned q plan) m) n p g.forest) count₀ l₀ r l'
      start m p g r l' v = unfold found_in in (rw (one_side (length doc) t (n + 1) (word t n 7) (length doc) g w.side) v)

  module _ {l : List ℕ} {more i index : ℕ} (s : Going doc t q plan n set l₀ count₀ l more i index) where
    -- No record is left.
    pub going_end : word t n 7 ≤ i → Done doc t q plan n set count₀ l₀ more l
    unfolding record_paths which
    going_end h =
        let ends = s.here.ends in
        let counted = s.counted in
        record {
          few = omega arith;
          walks = λ m p x g. s.goes m p x g more l (rw (side-none (length doc) t i (word t n 7) s.here h) (walks-none more l));
        }

    module _ (lt : i < word t n 7) where
      -- The record that is next.
      next : First (length doc) t i (word t n 7) s.here.forest
      next = first (length doc) t i (word t n 7) s.here lt

      pub going-own : RecordIn doc t i
      going-own = record { row = next.stands.room; name = rw (next.stands.name, next.stands.name_length) next.within }

      -- It ends past itself.
      pub going_on : i < word t i 7
      going_on = next.on

      -- The limits bound the count, its number, and which of the records in record n it is.
      pub going-few : (more ≤ record_limit) × (i ≤ record_limit)
      going-few =
          let row = next.stands.room in
          let few = w.few in
          let counted = s.counted in
          (omega arith, omega arith)

      pub going-index : index < record_limit
      going-index =
          let row = next.stands.room in
          let few = w.few in
          let indexed = s.indexed in
          omega arith

      -- The records in it have fewer levels than those in record n.
      pub going_less : levels_below t i < levels_below t n
      going_less =
          let row = next.stands.room in
          let low = s.low in
          let same = levels-are (length doc) t (i + 1) (word t i 7) next.inner (omega arith) in
          let all : levels s.here.forest ≡ levels _ = ap levels next.is in
          omega (arith, levels-inner next.head next.inner.forest next.later.forest)

      module _ {own : ℕ} (hop : HopsTo doc t q plan n i index set own) {r : ℕ} {l' : List ℕ} (v : Walks (hit (has own 0) i) more l r l') where
        -- It is counted; the records in it are next.
        pub going-ready : Walkable doc t q plan i own r
        going-ready =
            let less = going_less in
            let bounded = w.bounded in
            let counted = s.counted in
            let one = one_more (has own 0) i v in
            record {
              side = next.inner;
              own = going-own;
              few = w.few;
              bounded = omega arith;
              total = w.total;
              path = _;
              reaches = hop w.total w.path w.reaches;
              counted = omega arith;
            }

        -- They are passed over.
        pub going-over : {past : ℕ} {b : Bool} → past ≡ word t i 7 → b ≡ goes_in own i past → b ≡ false → Done doc t q plan i own r l' r l'
        going-over {past} {b} e f g =
            let counted = s.counted in
            let one = one_more (has own 0) i v in
            let on = next.on in
            passed_over (omega arith) (ap (goes_in own i) (sym e) ∙ sym f ∙ g)

        -- They are done; the records after it are left.
        pub going_next : {r' : ℕ} {l'' : List ℕ} → Done doc t q plan i own r l' r' l'' → Going doc t q plan n set l₀ count₀ l'' r' (word t i 7) (index + 1)
        going_next {r'} {l''} d =
            let low = s.low in
            let all : levels s.here.forest ≡ levels _ = ap levels next.is in
            let indexed = s.indexed in
            let on = next.on in
            record {
              here = next.later;
              low = omega (arith, levels-later next.head next.inner.forest next.later.forest);
              counted = d.few;
              indexed = omega arith;
              long = walks-length (d.walks w.total _ (hop w.total w.path w.reaches) next.inner) ∙ walks-length v ∙ s.long;
              goes = λ m p x g r'' k y. s.goes m p x g r'' k (then m p x r'' k y);
            }
          where
            then : (m : ℕ) (p : List Hop) → Reaches q plan m p set → (r'' : ℕ) (k : List ℕ)
                → Walks (found_from doc t (last_of (planned q plan) m) n p (word t i 7) (index + 1) next.later.forest) r' l'' r'' k
                → Walks (found_from doc t (last_of (planned q plan) m) n p i index s.here.forest) more l r'' k
            then m p x r'' k y =
                let ss = last_of (planned q plan) m in
                let to = p ++ (hop_to doc t n i index ∷ []) in
                let reached = hop m p x in
                let after = found_from doc t ss n p (word t i 7) (index + 1) next.later.forest in
                rw (found_first doc t ss n p i index (word t n 7) s.here.forest next, ← reaches-fits reached)
                (walks-then (hit (has own 0) i) (found_in doc t ss i to next.inner.forest ++ after) v
                (walks-then (found_in doc t ss i to next.inner.forest) after (d.walks m to reached next.inner) y))
