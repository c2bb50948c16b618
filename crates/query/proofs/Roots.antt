-- The walk from the root: what it may rely on, and that it finds the tags that match (demand 3).
-- Assumes nothing.
use Prim.Native.Nat.{ℕ, ◌+◌, ◌-◌, ◌*◌, ◌≤◌}
use mathlib.Core.Path.{◌≡◌, sym, ap, ◌∙◌}
use mathlib.Core.List.{List, [], ◌++◌}
use mathlib.Core.Bool.{Bool, false}
use native.Mathlib.Omega.{arith}
use lib.ListN.{length}
use lib.Dec.{eqb}
use Rattle.form.specs.Form.{Form}
use Rattle.form.specs.Answer.{got, depth_limit, record_limit}
use Rattle.form.specs.Table.{none, node, size, word, value_of}
use Rattle.form.specs.Tables.{Fair, IsTable}
use Rattle.form.specs.Paths.{fits, matches}
use Rattle.form.specs.Query.{shallow}
use Rattle.form.specs.Records.{Stands, record_paths}
use Rattle.form.proofs.Tables.{sits-first, sits-inner, table-sits, fair-name, fair-inner}
use Rattle.form.proofs.Depths.{shallow-parts}
use Rattle.form.proofs.Paths.{tree-paths}
use Rattle.query_steps.specs.Steps.{steps_from}
use Rattle.query_steps.specs.declared.Query.{Query}
use Rattle.query_reach.specs.Levels.{RecordIn}
use Rattle.query_reach.specs.Reached.{last_of}
use Rattle.query_reach.specs.Sets.{has}
use Rattle.query_reach.specs.Plans.{planned, Laid, Reaches}
use Rattle.query.specs.Sides.{Held, levels_below, Walkable}
use Rattle.query.specs.Walks.{Walks, hit, goes_in, found_in, Done}
use Rattle.query_reach.proofs.Reached.{reaches-fits}
use Rattle.query_reach.proofs.Plans.{laid-steps}
use Rattle.query.proofs.Levels.{levels-are, levels-low}
use Rattle.query.proofs.Walking.{walks-then, one_more, which-first, passed_over}

module _ (doc t : List ℕ) (i : IsTable (length doc) t) where
  -- The root's words, and the records in it.
  root_stands : Stands t 0 i.head (0 + 1 + size i.inner)
  root_stands = sits-first t 0 i.head i.inner none (table-sits (length doc) t i)

  abbrev root-side : Held (length doc) t 0
  root-side = record {
    forest = i.inner;
    element = eqb i.head.kind 9;
    sits = sits-inner t 0 i.head i.inner none (table-sits (length doc) t i);
    fair = fair-inner (length doc) false i.head i.inner none i.fair;
    ends = sym root_stands.end;
  }

  pub root-own : RecordIn doc t 0
  root-own = record {
    row = root_stands.room;
    name = rw (root_stands.name, root_stands.name_length) (fair-name (length doc) false i.head i.inner none i.fair).within;
  }

  -- They are within the depth: the root is the first of the containers.
  root-low : shallow depth_limit 0 (node i.head i.inner none) ≡ got tt → levels_below t 0 ≤ depth_limit
  root-low fine =
      let room = root_stands.room in
      let inside = (shallow-parts depth_limit 0 i.head i.inner none fine).1 in
      let same = levels-are (length doc) t (0 + 1) (word t 0 7) root-side (omega arith) in
      let low = levels-low (length doc) (eqb i.head.kind 9) (depth_limit - 1) (0 + 1) i.inner root-side.fair inside in
      omega arith

  module _ (q : List ℕ) {plan : List ℕ} {m set : ℕ} (reaches : Reaches q plan m [] set) {l : List ℕ} {r : ℕ} {l' : List ℕ} (v : Walks (hit (has set 0) 0) 0 l r l') where
    -- What the walk over the records in it may rely on.
    pub root-ready : shallow depth_limit 0 (node i.head i.inner none) ≡ got tt → length t ≤ 9 * record_limit → Walkable doc t q plan 0 set r
    root-ready fine few =
        let one = one_more (has set 0) 0 v in
        record {
          side = root-side;
          own = root-own;
          few = few;
          bounded = root-low fine;
          total = m;
          path = [];
          reaches = reaches;
          counted = one;
        }

    -- They are passed over.
    root_over : {past : ℕ} {b : Bool} → past ≡ word t 0 7 → b ≡ goes_in set 0 past → b ≡ false → Done doc t q plan 0 set r l' r l'
    root_over {past} {b} e f g =
        let one = one_more (has set 0) 0 v in
        let end = root_stands.end in
        passed_over (omega arith) (ap (goes_in set 0) (sym e) ∙ sym f ∙ g)

module _ (form : Form) (doc t : List ℕ) (i : IsTable (length doc) t) (q : List ℕ) {query : Query} {plan₀ plan : List ℕ} (laid : Laid query plan₀ plan) where
  -- What matches is found at the root and in it.
  root-found : matches (value_of form doc i.head i.inner) (steps_from q query 0)
      ≡ hit (fits (last_of (planned q plan) query.count) []) 0 ++ found_in doc t (last_of (planned q plan) query.count) 0 [] i.inner
  unfolding found_in matches
  root-found =
      let kind : word t 0 0 ≡ 10 = (root_stands doc t i).kind ∙ i.compound in
      let entries : eqb i.head.kind 9 ≡ false = rw i.compound in
      let fair : Fair (length doc) false i.inner = rw entries at (root-side doc t i).fair in
      rw (tree-paths form doc (length doc) i.head i.inner fair, kind, laid-steps laid q)
      (which-first (fits (steps_from q query 0)) 0 [] (record_paths doc 10 0 [] i.inner))

  module _ {set : ℕ} (reaches : Reaches q plan query.count [] set) {l : List ℕ} {r : ℕ} {l' : List ℕ} (v : Walks (hit (has set 0) 0) 0 l r l') where
    -- The records in it are walked over.
    pub root-done : {r' : ℕ} {l'' : List ℕ} → Done doc t q plan 0 set r l' r' l'' → Walks (matches (value_of form doc i.head i.inner) (steps_from q query 0)) 0 l r' l''
    root-done d =
        rw (root-found, ← reaches-fits reaches)
        (walks-then (hit (has set 0) 0) (found_in doc t (last_of (planned q plan) query.count) 0 [] i.inner) v (d.walks query.count [] reaches (root-side doc t i)))

    -- They are not.
    pub root-alone : {past : ℕ} {b : Bool} → past ≡ word t 0 7 → b ≡ goes_in set 0 past → b ≡ false
        → Walks (matches (value_of form doc i.head i.inner) (steps_from q query 0)) 0 l r l'
    root-alone e f g = root-done (root_over doc t i q reaches v e f g)
