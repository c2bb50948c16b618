-- Whether words form a table can be decided, in either edition: record by record, as form/specs/Rows.antt tells rule 7. So the promise of a move
-- has three cases, and in each it says all of the outcome.
-- Assumes nothing.
use Prim.Native.Nat.{ℕ, zero, suc, ◌+◌, ◌*◌, ◌/◌, ◌<◌}
use mathlib.Core.Path.{◌≡◌, refl, sym, ap, subst, ◌∙◌}
use mathlib.Core.Logic.{◌⊎◌, inl, inr, ⊎_elim}
use mathlib.Core.List.{List}
use mathlib.Core.Bool.{Bool, true, false, false≢true, Bool-discrete}
use native.Mathlib.Omega.{arith}
use native.Mathlib.Decide.{ℕ_discrete, dec_le, dec_lt, map_dec}
use lib.Dec.{eqb}
use lib.ListN.{length}
use Rattle.form.specs.Answer.{Out, got, no as refused}
use Rattle.form.specs.Table.{holds}
use Rattle.form.specs.Tables.{leaf_fits}
use Rattle.form.specs.Rows.{ChildIs, Chain, stop, hop, LeafRow, list_kind_at, ContainerRow, RowIs, RowsAre}
use Rattle.form.specs.Moved.{Edition, words_in, parented, word_in, Forms, movable}
use Rattle.form.proofs.Outcomes.{both}
use Rattle.form.proofs.Rows.{Grown, grown-rows, rows_grown}
use Rattle.form.proofs.Moved.{forms, formed, formed-length, records-of, formed-records, formed-grown, grown-formed}

-- ---- what can be decided

either : {A B : Type 0} → Dec A → Dec B → Dec (A ⊎ B)
either (yes a) b = yes (inl a)
either (no n) (yes b) = yes (inr b)
either (no n) (no m) = no (⊎_elim n m)

-- What is asked only where a test holds.
wanted : {A : Type 0} (b : Bool) → Dec A → Dec (b ≡ true → A)
wanted true (yes a) = yes (λ _. a)
wanted true (no n) = no (λ f. n (f refl))
wanted false a = yes (λ e. absurd (false≢true e))

-- Of each number below n.
each_below : {P : ℕ → Type 0} → ((i : ℕ) → Dec (P i)) → (n : ℕ) → Dec ((i : ℕ) → i < n → P i)
each_below d zero = yes (λ i h. absurd (omega arith))
each_below {P} d (suc n) = map_dec to (λ f. (λ i h. f i (omega arith), f n (omega arith))) (both (each_below d n) (d n))
  where
    to : ((i : ℕ) → i < n → P i) × P n → (i : ℕ) → i < suc n → P i
    to f i h = go (ℕ_discrete n i)
      where
        go : Dec (n ≡ i) → P i
        go (yes e) = subst P e f.1
        go (no e) = f.0 i (omega arith)

-- ---- rule 7 record by record

module _ (get : ℕ → ℕ → ℕ) (up l : Bool) (p e : ℕ) where
  child-decided : (j : ℕ) → Dec (ChildIs get up l p e j)
  child-decided j =
      map_dec
      (λ x. record { on = x.0; within = x.1.0; nameless = x.1.1.0; parent = x.1.1.1 })
      (λ c. (c.on, (c.within, (c.nameless, c.parent))))
      (both (dec_lt j (get j 7)) (both (dec_le (get j 7) e)
      (both (wanted l (both (ℕ_discrete (get j 1) 0) (ℕ_discrete (get j 2) 0))) (wanted up (ℕ_discrete (get j 8) p)))))

  -- A chain of no children is at its end, and any other begins with a child.
  chain-end : {j : ℕ} → Chain get up l p e j 0 → j ≡ e
  chain-end stop = refl

  chain_first : {j c : ℕ} → Chain get up l p e j (suc c) → ChildIs get up l p e j × Chain get up l p e (get j 7) c
  chain_first (hop child ch) = (child, ch)

  chain-decided : (c j : ℕ) → Dec (Chain get up l p e j c)
  chain-decided zero j = map_dec (λ q. subst (λ (x : ℕ). Chain get up l p e x 0) (sym q) stop) chain-end (ℕ_discrete j e)
  chain-decided (suc c) j = map_dec (λ x. hop x.0 x.1) chain_first (both (child-decided j) (chain-decided c (get j 7)))

module _ (d : ℕ) (get : ℕ → ℕ → ℕ) (up : Bool) (n : ℕ) where
  leaf-decided : (i : ℕ) → Dec (LeafRow d get i)
  leaf-decided i =
      map_dec
      (λ x. record { fits = x.0; body = x.1.0; plain = x.1.1.0; next = x.1.1.1 })
      (λ r. (r.fits, (r.body, (r.plain, r.next))))
      (both (Bool-discrete (leaf_fits (get i 0) (get i 4) (get i 5)) true) (both (dec_le (get i 3 + get i 4) d)
      (both (ℕ_discrete (get i 6) 0) (ℕ_discrete (get i 7) (i + 1)))))

  container-decided : (i : ℕ) → Dec (ContainerRow get up n i)
  container-decided i =
      map_dec
      (λ x. record { kind = x.0; start = x.1.0; long = x.1.1.0; listed = x.1.1.1.0; within = x.1.1.1.1.0; tiled = x.1.1.1.1.1 })
      (λ r. (r.kind, (r.start, (r.long, (r.listed, (r.within, r.tiled))))))
      (both (Bool-discrete (holds (get i 0)) true) (both (ℕ_discrete (get i 3) 0) (both (ℕ_discrete (get i 4) 0)
      (both (ℕ_discrete (get i 6) (list_kind_at get i)) (both (dec_le (get i 7) n)
      (chain-decided get up (eqb (get i 0) 9) i (get i 7) (get i 5) (i + 1)))))))

  row-decided : (i : ℕ) → Dec (RowIs d get up n i)
  row-decided i =
      map_dec (λ x. record { name = x.0; rest = x.1 }) (λ r. (r.name, r.rest))
      (both (dec_le (get i 1 + get i 2) d) (either (leaf-decided i) (container-decided i)))

  rows-decided : Dec (RowsAre d get up n)
  rows-decided =
      map_dec
      (λ x. record { some = x.0; compound = x.1.0; whole = x.1.1.0; top = x.1.1.1.0; each = x.1.1.1.1 })
      (λ r. (r.some, (r.compound, (r.whole, (r.top, r.each)))))
      (both (dec_lt 0 n) (both (ℕ_discrete (get 0 0) 10) (both (ℕ_discrete (get 0 7) n)
      (both (wanted up (ℕ_discrete (get 0 8) 0)) (each_below row-decided n)))))

-- ---- tables

module _ (e : Edition) (d : ℕ) (ws : List ℕ) where
  -- Words of n records form a table exactly if each record is as rule 7 says.
  rows-forms : (n : ℕ) → length ws ≡ words_in e * n → RowsAre d (word_in e ws) (parented e) n → Forms e d ws
  rows-forms n long r = forms e d ws (grown-formed e d ws n long (rows_grown d (word_in e ws) (parented e) n r))

  forms-rows : (n : ℕ) → length ws ≡ words_in e * n → Forms e d ws → RowsAre d (word_in e ws) (parented e) n
  forms-rows n long t =
      let f = formed e d ws t in
      grown-rows d (word_in e ws) (parented e) n (subst (λ (k : ℕ). Grown d (word_in e ws) (parented e) k) (formed-records e d ws f n long) (formed-grown e d ws f))

  pub forms-decided : Dec (Forms e d ws)
  forms-decided = go (ℕ_discrete (length ws) (words_in e * n))
    where
      n : ℕ
      n = length ws / words_in e

      go : Dec (length ws ≡ words_in e * n) → Dec (Forms e d ws)
      go (yes long) = map_dec (rows-forms n long) (forms-rows n long) (rows-decided d (word_in e ws) (parented e) n)
      go (no odd) = no (λ t.
          let long = formed-length e d ws (formed e d ws t) in
          odd (long ∙ ap (λ (k : ℕ). words_in e * k) (sym (records-of e (length ws) _ long))))

-- ---- the cases of a move

-- What holds of lines that are refused, of words that form no table and of a table, holds.
pub in-each-move : {C : Type 0} (e : Edition) (d : ℕ) (s : List ℕ) → ((n p : ℕ) → movable e d s ≡ refused n p → C)
    → ((ws : List ℕ) → movable e d s ≡ got ws → (Forms e d ws → ⊥) → C) → ((ws : List ℕ) → movable e d s ≡ got ws → Forms e d ws → C) → C
in-each-move {C} e d s bad unfit fit = go (movable e d s) refl
  where
    told : (ws : List ℕ) → movable e d s ≡ got ws → Dec (Forms e d ws) → C
    told ws m (yes t) = fit ws m t
    told ws m (no n) = unfit ws m n

    go : (x : Out (List ℕ)) → movable e d s ≡ x → C
    go (got ws) m = told ws m (forms-decided e d ws)
    go (refused n p) m = bad n p m
