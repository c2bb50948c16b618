-- Laws of the two runs of a compound's keys, for the parser: none yet, the same after more was written behind them, and one more put in.
-- Assumes nothing.
use Prim.Native.Nat.{ℕ, ◌+◌, ◌-◌, ◌*◌, ◌/◌, ◌≤◌, ◌<◌}
use mathlib.Core.List.{List}
use mathlib.Core.Bool.{Bool, true, false, ◌||◌}
use mathlib.Core.Logic.{◌⊎◌, inl, inr}
use mathlib.Core.Path.{◌≡◌, refl, sym, ap, ◌∙◌}
use native.Mathlib.Omega.{arith}
use lib.ListN.{length, get_or, take, drop, length-drop}
use lib.Seq.{length-take-le}
use Rattle.form.specs.Spans.{part, same}
use Rattle.form.proofs.Picks.{lt-or}
use Rattle.snbt_form.specs.Text.{known}
use Rattle.snbt_keys.proofs.Shifts.{take_less, put_front, put-beyond}
use Rattle.snbt_keys.proofs.Names.{names-alike, or-true, known-each, known-split, unknown-left, unknown-right}
use Rattle.snbt_keys.proofs.Keys.{rising_none, rising-same, rising-more, same_name, names_same, known_more, name-before, name-here, name-behind, each, or-moved}
use Rattle.snbt_keys.specs.Keys.{size_at, name_at, names_in, Rising, FreeIn, SpotIn, joint_of, Runs, Kept, FreeAt, SpotIs, put_in, Named, Comes, Added}
use Rattle.std.specs.Prelude.{Option, Some, None}

-- ---- where the second run begins

pub joint-is : (base top : ℕ) → base + (top - base) / 512 * 512 ≡ joint_of base top
unfolding joint_of
joint-is base top = refl

joint-none : (base : ℕ) → joint_of base base ≡ base
unfolding joint_of
joint-none base = omega arith

module _ (base top : ℕ) (h : base ≤ top) where
  pub joint-stays : top + 1 < joint_of base top + 512 → joint_of base (top + 1) ≡ joint_of base top
  unfolding joint_of
  joint-stays l = omega arith

  pub joint-full : top + 1 ≡ joint_of base top + 512 → joint_of base (top + 1) ≡ top + 1
  unfolding joint_of
  joint-full e = omega arith

  pub joint-near : top < joint_of base top + 512
  unfolding joint_of
  joint-near = omega arith

-- ---- no key yet

runs_none : (o k : List ℕ) (base mid at : ℕ) → mid ≡ base → at ≤ length o → base ≤ length k → Runs o k base mid base at
runs_none o k base mid at e h l =
    rw e
    (record {
      first = rising_none o k base at h l;
      second = rising_none o k base at h l;
      apart = λ i j p q r s. absurd (omega arith);
    })

pub kept-none : (o k : List ℕ) (base at : ℕ) → at ≤ length o → base ≤ length k → Kept o k base base at
kept-none o k base at h l = runs_none o k base (joint_of base base) at (joint-none base) h l

-- ---- the same keys, where more was written behind them

module _ {o k : List ℕ} {base mid top at : ℕ} (runs : Runs o k base mid top at) (o' k' : List ℕ) (front : take at o ≡ take at o') (places : take top k ≡ take top k') where
  first-places : take mid k ≡ take mid k'
  first-places = take_less mid top k k' runs.second.low places

  name-same : (i : ℕ) → base ≤ i → i < top → name_at o (get_or k i 0) ≡ name_at o' (get_or k' i 0)
  name-same i h l = go (lt-or i mid)
    where
      go : (i < mid) ⊎ (mid ≤ i) → name_at o (get_or k i 0) ≡ name_at o' (get_or k' i 0)
      go (inl p) = same_name runs.first o' k' front first-places i h p
      go (inr p) = same_name runs.second o' k' front places i p l

  pub kept_same : {at' : ℕ} → at ≤ at' → at' ≤ length o' → Runs o' k' base mid top at'
  kept_same h l =
      let lo = runs.first.low in
      let hi = runs.second.low in
      record {
        first = rising-same runs.first o' k' front first-places h l;
        second = rising-same runs.second o' k' front places h l;
        apart = λ i j p q r s. rw (← name-same i p (omega arith), ← name-same j (omega arith) s) (runs.apart i j p q r s);
      }

  pub names-kept : names_in o k base (top - base) ≡ names_in o' k' base (top - base)
  names-kept =
      let lo = runs.first.low in
      names-alike o k base o' k' base (top - base) (λ i h. name-same (base + i) (omega arith) (omega arith))

-- the whole output may be looked at
pub kept_whole : {o k : List ℕ} {base top at : ℕ} → Kept o k base top at → Kept o k base top (length o)
kept_whole {o} {k} kept = kept_same kept o k refl refl kept.second.within (omega arith)

-- a key that is new stays so
pub free-same : {o k : List ℕ} {base top at : ℕ} {s : List ℕ} {i : ℕ} → Kept o k base top at → (o' k' : List ℕ) → take at o ≡ take at o' → take top k ≡ take top k'
    → FreeAt o k base top s i → FreeAt o' k' base top s i
free-same {o} {k} {base} {top} {i = i} kept o' k' front places free =
    let lo = kept.first.low in
    let f = free.sides in
    record {
      new = rw (← names-kept kept o' k' front places) free.new;
      sides = record {
        low = f.low;
        order = f.order;
        high = f.high;
        before = λ j h l. rw (← name-same kept o' k' front places j (omega arith) (omega (arith, f.high))) (f.before j h l);
        behind = λ j h l. rw (← name-same kept o' k' front places j (omega (arith, f.low)) l) (f.behind j h l);
      };
    }

-- ---- in both runs

module _ {o k : List ℕ} {base top at : ℕ} (kept : Kept o k base top at) (s : List ℕ) where
  abbrev first-known : Bool
  first-known = known s (names_in o k base (joint_of base top - base))

  abbrev second-known : Bool
  second-known = known s (names_in o k (joint_of base top) (top - joint_of base top))

  known_both : known s (names_in o k base (top - base)) ≡ (first-known || second-known)
  known_both = known-split o k base (joint_of base top) top s kept.first.low kept.second.low

  -- a key that the first run has
  pub taken-first : first-known ≡ true → known s (names_in o k base (top - base)) ≡ true
  taken-first e = known_both ∙ rw e refl

  -- one that it has not, by the second run's answer
  pub spot-second : (r : Option ℕ) → first-known ≡ false → SpotIn o k (joint_of base top) top s r → SpotIs o k base top s r
  spot-second None e h = known_both ∙ rw h (or-true first-known)
  spot-second (Some i) e h = record { new = known_both ∙ rw (e, h.new) refl; sides = h.sides }

-- ---- one key more

named_self : (o : List ℕ) (p : ℕ) → p + (2 + size_at o p) ≤ length o → Named o p (p + (2 + size_at o p)) (name_at o p)
unfolding name_at
named_self o p h =
    let e : length (part o (p + 2) (size_at o p)) ≡ size_at o p = length-take-le (size_at o p) (drop (p + 2) o) (simp length-drop (omega arith)) in
    record { size = sym e; is = rw e refl; ends = rw e (omega arith) }

-- its place was put in: the second run has it
module _ {o k : List ℕ} {base top i p : ℕ} (c : Comes o k base top i p) (k' : List ℕ) (put : k' ≡ put_in k top i p) where
  abbrev mid : ℕ
  mid = joint_of base top

  abbrev at' : ℕ
  at' = p + (2 + size_at o p)

  low : base ≤ mid
  low = c.kept.first.low

  high : mid ≤ top
  high = c.kept.second.low

  free-second : FreeIn o k mid top (name_at o p) i
  free-second = record { new = unknown-right o k base mid top (name_at o p) low high c.free.new; sides = c.free.sides }

  named : Named o p at' (name_at o p)
  named = named_self o p c.ends

  places : take mid k ≡ take mid k'
  places = sym (ap (take mid) put ∙ put_front k top c.room i p mid c.free.sides.high c.free.sides.low)

  first' : Rising o k' base mid at'
  first' = rising-same c.kept.first o k' refl places (omega arith) c.ends

  second' : Rising o k' mid (top + 1) at'
  second' = rising-more c.kept.second free-second c.room put refl named (omega arith) c.ends

  apart' : (a j : ℕ) → base ≤ a → a < mid → mid ≤ j → j < top + 1 → same (name_at o (get_or k' a 0)) (name_at o (get_or k' j 0)) ≡ false
  apart' a j h l m n =
      rw (← same_name c.kept.first o k' refl places a h l)
      (each (λ j. same (name_at o (get_or k a 0)) (name_at o (get_or k' j 0)) ≡ false) mid i top
      (λ j q r. rw (name-before c.kept.second free-second c.room put refl named (omega arith) c.ends j q r) (c.kept.apart a j h l q (omega (arith, c.free.sides.high))))
      (rw (name-here c.kept.second free-second c.room put refl named (omega arith) c.ends)
      (known-each o k base mid (name_at o p) (unknown-left o k base mid top (name_at o p) low high c.free.new) a h l))
      (λ j q r. rw (name-behind c.kept.second free-second c.room put refl named (omega arith) c.ends j q r) (c.kept.apart a j h l (omega (arith, c.free.sides.low)) r))
      j m n)

  pub runs-more : Runs o k' base mid (top + 1) at'
  runs-more = record { first = first'; second = second'; apart = apart' }

  pub alike-more : (x : List ℕ) → known x (names_in o k' base (top + 1 - base)) ≡ (same (name_at o p) x || known x (names_in o k base (top - base)))
  alike-more x =
      known-split o k' base mid (top + 1) x low (omega (arith, high))
      ∙ rw (← names_same c.kept.first o k' refl places, known_more c.kept.second free-second c.room put refl named (omega arith) c.ends x)
      (or-moved (known x (names_in o k base (mid - base))) (known x (names_in o k mid (top - mid))) (same (name_at o p) x))
      ∙ ap (λ t. same (name_at o p) x || t) (sym (known-split o k base mid top x low high))

  pub around-more : take base k' ≡ take base k
  around-more = ap (take base) put ∙ put_front k top c.room i p base c.free.sides.high (omega (arith, c.free.sides.low, low))

  pub beyond-more : (j : ℕ) → top + 1 ≤ j → get_or k' j 0 ≡ get_or k j 0
  beyond-more j h = rw put (put-beyond k top c.room i p j c.free.sides.high h)

  -- and is not full
  pub added-stays : top + 1 < mid + 512 → Added o k base top p k'
  added-stays h =
      let e : joint_of base (top + 1) ≡ mid = joint-stays base top (omega (arith, low, high)) h in
      record { kept = rw e runs-more; alike = alike-more; around = around-more; beyond = beyond-more }

  -- and is merged into the first
  pub added-merged : (k'' : List ℕ) → top + 1 ≡ mid + 512 → Rising o k'' base (top + 1) at'
      → ((x : List ℕ) → known x (names_in o k'' base (top + 1 - base)) ≡ known x (names_in o k' base (top + 1 - base)))
      → take base k'' ≡ take base k' → ((j : ℕ) → top + 1 ≤ j → get_or k'' j 0 ≡ get_or k' j 0) → Added o k base top p k''
  added-merged k'' full run alike around beyond =
      let e : joint_of base (top + 1) ≡ top + 1 = joint-full base top (omega (arith, low, high)) full in
      record {
        kept = rw e (record { first = run; second = rising_none o k'' (top + 1) at' run.within run.high; apart = λ i j q r s t. absurd (omega arith) });
        alike = λ x. alike x ∙ alike-more x;
        around = around ∙ around-more;
        beyond = λ j h. beyond j h ∙ beyond-more j h;
      }
