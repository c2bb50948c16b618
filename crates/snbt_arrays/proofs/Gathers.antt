-- Laws of an array's loop (rule 14): what a turn makes of the elements so far, and the count that is put before them.
-- Assumes nothing.
use Prim.Native.Nat.{ℕ, suc, ◌+◌, ◌-◌, ◌≤◌}
use mathlib.Core.Bool.{Bool, false}
use mathlib.Core.List.{List, [], ◌∷◌, ◌++◌, append-nil, append_assoc}
use mathlib.Core.Path.{◌≡◌, refl, sym, ap, ◌∙◌, subst}
use native.Mathlib.Omega.{arith}
use borrow.Author.Tests.{le-leb}
use lib.Dec.{leb}
use lib.IntN.{ℤ}
use lib.ListN.{length, length-append}
use Rattle.form.specs.Answer.{Out, got, no, ◌>>=◌, output_full}
use Rattle.form.specs.Numbers.{bytes_of, bits_of}
use Rattle.form.specs.Spans.{over}
use Rattle.form.specs.Tree.{kind_of}
use Rattle.form.specs.Layout.{payload, int_bytes, ints_bytes, array_bytes, ints_bytes_in, payload_in}
use Rattle.form.proofs.Digits.{digits-length}
use Rattle.form.proofs.Table.{over_none, over-length, over-over, over-before}
use Rattle.snbt_form.specs.Text.{Ints, Last, otherwise, after_comma, array_tag, ints_by, array_at}
use Rattle.std.specs.Prelude.{Ok}
use Rattle.snbt_arrays.specs.declared.elements.ElementTurn.TheVariants.{Comma, Element, End}
use Rattle.snbt_placing.specs.Done.{Did, Wide, bytes, ints, longs}
use Rattle.snbt_tokens.specs.declared.Index.{Index}
use Rattle.snbt_arrays.specs.Turns.{behind_all, OneTurn, TurnIs, Gathering}
use Rattle.snbt_arrays.proofs.Turning.{wide-range}

-- ---- elements behind elements

-- The rest of an array behind none.
behind-none : (x : Out Ints) → (x >>= behind_all []) ≡ x
behind-none (got r) = refl
behind-none (no n p) = refl

-- Behind one more.
behind_more : (x : Out Ints) (zs : List ℤ) (z : ℤ) → (x >>= behind_all (zs ++ (z ∷ []))) ≡ (◌>>=◌ {B = Ints} (x >>= behind_all (z ∷ [])) (behind_all zs))
behind_more (got r) zs z = ap (λ (l : List ℤ). got (record { values = l; next = r.next; used = r.used })) (append_assoc zs (z ∷ []) r.values)
behind_more (no n p) zs z = refl

-- The bytes of one element more.
ints-more : (w : ℕ) (zs : List ℤ) (z : ℤ) → ints_bytes w (zs ++ (z ∷ [])) ≡ ints_bytes w zs ++ int_bytes w z
unfolding ints_bytes_in
ints-more w [] z = append-nil (int_bytes w z)
ints-more w (y ∷ zs) z = ap (λ (l : List ℕ). int_bytes w y ++ l) (ints-more w zs z) ∙ sym (append_assoc (int_bytes w y) (ints_bytes w zs) (int_bytes w z))

ints-longer : (w : ℕ) (zs : List ℤ) (z : ℤ) → length (ints_bytes w (zs ++ (z ∷ []))) ≡ length (ints_bytes w zs) + w
ints-longer w zs z = ap length (ints-more w zs z) ∙ length-append (ints_bytes w zs) (int_bytes w z) ∙ ap (λ (n : ℕ). length (ints_bytes w zs) + n) (digits-length w (bits_of w z))

ints-none : (w : ℕ) → ints_bytes w [] ≡ []
unfolding ints_bytes_in
ints-none w = refl

-- An array's payload.
array-payload : {w : ℕ} → Wide w → (vs : List ℤ) → payload (array_tag w vs) ≡ array_bytes w vs
unfolding payload_in
array-payload bytes vs = refl
array-payload ints vs = refl
array-payload longs vs = refl

-- ---- the loop

module _ (t o : List ℕ) (w brace start at : ℕ) where
  -- There is no room for the count (13).
  pub array-full : {r : Bool} → r ≡ leb (at + 4) (length o) → r ≡ false → array_at t (length o) w brace start at ≡ no output_full brace
  unfolding array_at
  array-full h f = let g : leb (at + 4) (length o) ≡ false = sym h ∙ f in rw g refl

  -- Before the first turn.
  pub gather-start : start ≤ length t → at + 4 ≤ length o → Gathering t o w brace start at otherwise start (at + 4) 0 o
  gather-start h l =
      let z : length (ints_bytes w []) ≡ 0 = ap length (ints-none w) in
      record {
        turns = suc (length t);
        done = [];
        enough = omega arith;
        from = omega arith;
        within = h;
        rest = behind-none (ints_by t (length o) (suc (length t)) w brace otherwise start (at + 4));
        counted = refl;
        few = omega arith;
        used_is = omega (arith, z);
        fits = l;
        wrote = sym (ap (over o (at + 4)) (ints-none w) ∙ over_none o (at + 4));
      }

module _ {t o : List ℕ} {w brace start at : ℕ} {last : Last} {place used count : ℕ} {o' : List ℕ} (g : Gathering t o w brace start at last place used count o') where
  -- The output is as long as it was.
  pub gather-length : length o' ≡ length o
  gather-length = ap length g.wrote ∙ over-length o (at + 4) (ints_bytes w g.done) (omega (arith, g.used_is, g.fits))

  -- A turn is left.
  one_left : g.turns ≡ suc (g.turns - 1)
  one_left = omega (arith, g.enough, g.within)

  -- What one turn makes of the rest.
  turned : {n : ℕ} (after : ℕ → ℕ → Out Ints) → OneTurn t place n (λ f. ints_by t (length o') f w brace last place used) (after (length o'))
      → (◌>>=◌ {B = Ints} (after (length o) (g.turns - 1)) (behind_all g.done)) ≡ ints_by t (length o) (suc (length t)) w brace otherwise start (at + 4)
  turned {n} after x =
      let f = g.turns - 1 in
      let s : ints_by t (length o) (suc f) w brace last place used ≡ after (length o) f =
      subst (λ (m : ℕ). ints_by t m (suc f) w brace last place used ≡ after m f) gather-length (x.is f) in
      ap (λ (y : Out Ints). ◌>>=◌ {B = Ints} y (behind_all g.done)) (sym s ∙ ap (λ (m : ℕ). ints_by t (length o) m w brace last place used) (sym one_left))
      ∙ g.rest

  -- A comma.
  pub gather-comma : {i : Index} {n : ℕ} {o'' : List ℕ} → TurnIs t w brace last place used o' (Ok (Comma i n)) o'' → Gathering t o w brace start at (after_comma i.0) n used count o''
  gather-comma {i} {n} x =
      let on = x.0.on in
      record {
        turns = g.turns - 1;
        done = g.done;
        enough = omega (arith, g.enough, g.within, on);
        from = omega (arith, g.from, on);
        within = x.0.within;
        rest = turned (λ m f. ints_by t m f w brace (after_comma i.0) n used) x.0;
        counted = g.counted;
        few = g.few;
        used_is = g.used_is;
        fits = g.fits;
        wrote = x.1 ∙ g.wrote;
      }

  -- An element.
  pub gather-element : Wide w → {n : ℕ} {o'' : List ℕ} → TurnIs t w brace last place used o' (Ok (Element n)) o'' → Gathering t o w brace start at otherwise n (used + w) (count + 1) o''
  gather-element k {n} (z, x, h, y) =
      let on = x.on in
      let more = ints_by t (length o) (g.turns - 1) w brace otherwise n (used + w) in
      record {
        turns = g.turns - 1;
        done = g.done ++ (z ∷ []);
        enough = omega (arith, g.enough, g.within, on);
        from = omega (arith, g.from, on);
        within = x.within;
        rest = behind_more more g.done z ∙ turned (λ m f. ints_by t m f w brace otherwise n (used + w) >>= behind_all (z ∷ [])) x;
        counted = omega (arith, g.counted, length-append g.done (z ∷ []));
        few = omega (arith, g.few, (wide-range k).0);
        used_is = omega (arith, g.used_is, ints-longer w g.done z);
        fits = omega (arith, h, gather-length);
        wrote = y
            ∙ (λ j. over (g.wrote j) (g.used_is j) (int_bytes w z))
            ∙ over-over o (at + 4) (ints_bytes w g.done) (omega (arith, g.used_is, g.fits)) (int_bytes w z)
            ∙ ap (over o (at + 4)) (sym (ints-more w g.done z));
      }

  -- What the whole array is, where the definition ends it or refuses here.
  ended_is : {x : Out Ints} → ints_by t (length o) (suc (length t)) w brace otherwise start (at + 4) ≡ x
      → array_at t (length o) w brace start at ≡ (x >>= (λ (r : Ints). got (record { tag = array_tag w r.values; next = r.next; used = r.used })))
  unfolding array_at
  ended_is e = rw (le-leb (at + 4) (length o) (omega (arith, g.used_is, g.fits)), e) refl

  -- A refusal.
  pub gather-no : {a b : ℕ} → ((f : ℕ) → ints_by t (length o') (suc f) w brace last place used ≡ no a b) → array_at t (length o) w brace start at ≡ no a b
  gather-no {a} {b} x =
      let f = g.turns - 1 in
      let s : ints_by t (length o) g.turns w brace last place used ≡ no a b =
      ap (λ (m : ℕ). ints_by t (length o) m w brace last place used) one_left ∙ subst (λ (m : ℕ). ints_by t m (suc f) w brace last place used ≡ no a b) gather-length (x f) in
      ended_is (sym g.rest ∙ ap (λ (y : Out Ints). ◌>>=◌ {B = Ints} y (behind_all g.done)) s)

  -- The closing brace: the count goes before the elements.
  pub gather-end : Wide w → {n kind : ℕ} {o₁ o₂ : List ℕ} → TurnIs t w brace last place used o' (Ok (End n)) o₁ → ((vs : List ℤ) → kind ≡ kind_of (array_tag w vs))
      → o₂ ≡ over o₁ at (bytes_of 4 count) → Did (array_at t (length o) w brace start at) o at n used kind o₂
  gather-end k {n} {kind} {o₁} {o₂} x κ y =
      let done = g.done in
      let v : Out Ints = got (record { values = done; next = n; used = used }) in
      let whole : ints_by t (length o) (suc (length t)) w brace otherwise start (at + 4) ≡ v =
      sym (turned (λ m f. got (record { values = []; next = n; used = used })) x.0)
      ∙ ap (λ (l : List ℤ). got (record { values = l; next = n; used = used })) (append-nil done) in
      let p : payload (array_tag w done) ≡ bytes_of 4 count ++ ints_bytes w done = array-payload k done ∙ ap (λ (m : ℕ). bytes_of 4 m ++ ints_bytes w done) (sym g.counted) in
      let l : length (bytes_of 4 count) ≡ 4 = digits-length 4 count in
      record {
        value = record { tag = array_tag w done; next = n; used = used };
        same = ended_is whole;
        next_is = refl;
        used_is = refl;
        kind_is = κ done;
        size_is = omega (arith, g.used_is, l, ap length p, length-append (bytes_of 4 count) (ints_bytes w done));
        fits = g.fits;
        wrote = y
            ∙ ap (λ (m : List ℕ). over m at (bytes_of 4 count)) (x.1 ∙ g.wrote ∙ (λ j. over o (at + sym l j) (ints_bytes w done)))
            ∙ over-before o at (bytes_of 4 count) (ints_bytes w done) (omega (arith, l, g.used_is, g.fits))
            ∙ ap (over o at) (sym p);
      }
