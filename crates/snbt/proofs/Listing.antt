-- Lists: what `parse_list` answers, from what its calls answered, and how far the loop of `parse_elements` has come.
-- Assumes nothing.
use Prim.Native.Nat.{ℕ, zero, suc, ◌+◌, ◌-◌, ◌*◌, ◌≤◌, ◌<◌}
use mathlib.Core.Path.{◌≡◌, refl, sym, ap, ◌∙◌}
use mathlib.Core.List.{List, ◌∷◌, [], ◌++◌}
use native.Mathlib.Omega.{arith}
use lib.ListN.{length, take, length-append}
use Rattle.form.specs.Answer.{Out, got, no, ◌>>=◌}
use Rattle.form.specs.Numbers.{bytes_of}
use Rattle.form.specs.Spans.{over}
use Rattle.form.specs.Tree as tree
use Rattle.form.specs.Tree.{Tag, Tags, nil, more, many}
use Rattle.form.specs.Layout.{payload, element_bytes, element_bytes_in}
use Rattle.form.proofs.Table.{over_none, over-length, over-over}
use Rattle.snbt_form.specs.Lexing.{first, later}
use Rattle.snbt_form.specs.Text.{Value, Row, Reads, array_at, elements_by, square_at, value_at}
use Rattle.snbt_placing.specs.declared.Done.{Done}
use Rattle.std.specs.Prelude.{Result, Ok, Err}
use Rattle.form.specs.Refusals.{number_of}
use Rattle.form.specs.declared.refusals.Refused.{Refused}
use Rattle.snbt_placing.specs.Done.{Did, Agrees, Ahead, Wide, bytes, ints, longs}
use Rattle.snbt_due.specs.Due.{value_from}
use Rattle.snbt_lists.specs.declared.NextElement.{NextElement}
use Rattle.snbt_lists.specs.declared.Opened.{Opened}
use Rattle.snbt_lists.specs.Lists.{ElementIs, OpenedIs, empty_at, rest_of}
use Rattle.snbt.specs.declared.values.Elements.{Elements}
use Rattle.snbt.specs.Turns.{inner, Went}
use Rattle.snbt.specs.Steps.{ParsedValue, ParsedList, ParsedElements}
use Rattle.snbt.proofs.Reading.{inner_is}
use Rattle.snbt.proofs.Sizes.{array-went}
use Rattle.snbt.proofs.Bytes.{◌then◌, then-nil, then_one, many-then, bytes-then, bytes_one, list_kind, list-size, list_over}
use Rattle.snbt.proofs.Held.{did-as, did-long}

-- ---- behind a `[`

wide-le : (w : ℕ) → Wide w → w ≤ 8
wide-le _ bytes = omega arith
wide-le _ ints = omega arith
wide-le _ longs = omega arith

module _ (t o k : List ℕ) (brace p at top left : ℕ) (h : at + 16 ≤ 16 * p) where
  pub list-array : (w m : ℕ) (r : Result Done Refused) (o' : List ℕ) → OpenedIs t (length o) left brace p at (Ok (Opened.Array w m))
      → Agrees (array_at t (length o) w brace m at) o at r o' → Ahead m (length t) r → ParsedList t o k brace p at top left r o' k
  list-array w m (Err x) o' (e, wide, g, l) s ahead = e (inner t (length o) left) ∙ s
  list-array w m (Ok y) o' (e, wide, g, l) d ahead =
      let z = array-went t (length o) w brace (wide-le w wide) m at l d.value d.same in (
        did-as (e (inner t (length o) left)) d,
        record { around = refl; on = omega (arith, g, ahead.0); within = ahead.1; small = omega (arith, d.next_is, d.used_is, z, g, ahead.0) },
      )

  pub list-empty : (m : ℕ) (d : Done) (o' : List ℕ) → OpenedIs t (length o) left brace p at (Ok (Opened.Empty m))
      → Agrees (got (empty_at m at)) o at (Ok d) o' → (d.next ≡ m) × (d.used ≡ at + 5) × (d.kind ≡ 9) → ParsedList t o k brace p at top left (Ok d) o' k
  list-empty m d o' (e, room, g, l) s q = (
    did-as (e (inner t (length o) left)) s,
    record { around = refl; on = omega (arith, q.0, g); within = omega (arith, q.0, l); small = omega (arith, q.0, q.1, g) },
  )

  -- a list with a first element, whose elements are read with one container fewer
  module _ (opened : OpenedIs t (length o) left brace p at (Ok Opened.First)) where
    abbrev val : Reads
    val = value_at t (length o) (left - 1)

    abbrev square : Out Value
    square = square_at t (length o) left (inner t (length o) left) brace p at

    begun : square ≡ (value_from t (length o) val first 0 p (at + 5) >>= rest_of t (length o) val)
    begun =
        opened.0 (inner t (length o) left)
        ∙ rw (inner_is t (length o) left (λ z. absurd (omega (arith, z, opened.1)))) refl

    -- behind the first element, which ends at n and takes the output up to u
    module _ (o₁ k₁ : List ℕ) (n u kind : ℕ) (did : Did (value_from t (length o) val first 0 p (at + 5)) o (at + 5) n u kind o₁) (went₁ : Went t k top p n u k₁) where
      on : square ≡ (elements_by t (length o) (suc (length t)) val kind n u
          >>= (λ r. got (record { tag = tree.list (more did.value.tag r.tags); next = r.next; used = r.used })))
      on = begun ∙ rw (did.same, did.kind_is, did.next_is, did.used_is) refl

      pub list-whole : (o₂ o₃ k₂ : List ℕ) (r : Elements) → ParsedElements t o₁ k₁ kind n u top (left - 1) (Ok r) o₂ k₂
          → o₃ ≡ over o₂ at (kind ∷ bytes_of 4 (r.count + 1)) → ParsedList t o k brace p at top left (Ok (record { next = r.next; used = r.used; kind = 9 })) o₃ k₂
      list-whole o₂ o₃ k₂ r (ran, went, few) put =
          let v = did.value.tag in
          let ts = ran.row.tags in (
            record {
              value = record { tag = tree.list (more v ts); next = ran.row.next; used = ran.row.used };
              same = on ∙ rw (rw (did-long did) at ran.same) refl;
              next_is = ran.next_is;
              used_is = ran.used_is;
              kind_is = list_kind (more v ts);
              size_is = omega (arith, ran.size_is, did.size_is, list-size v ts);
              fits = omega (arith, ran.fits, did-long did);
              wrote =
                  list_over o o₁ o₂ o₃ at u kind r.count v ts (omega (arith, did.size_is, did.fits)) did.wrote did.size_is
                  ran.wrote did.kind_is ran.count_is put;
            },
            record { around = went.around ∙ went₁.around; on = omega (arith, went₁.on, went.on); within = went.within; small = went.small },
          )

-- ---- the elements behind the first

-- the elements so far, then the rest
abbrev after_tags : Tags → Out Row → Out Row
after_tags a (got r) = got (record { tags = ◌then◌ a r.tags; next = r.next; used = r.used })
after_tags a (no n p) = no n p

abbrev more_tag : Tag → Row → Out Row
more_tag t r = got (record { tags = more t r.tags; next = r.next; used = r.used })

after_none : (o : Out Row) → after_tags nil o ≡ o
unfolding ◌then◌
after_none (got r) = refl
after_none (no n p) = refl

after_one_lem : (a : Tags) (t : Tag) (o : Out Row) → after_tags a (o >>= more_tag t) ≡ after_tags (◌then◌ a (more t nil)) o
after_one_lem a t (got r) = ap (λ ts. got (record { tags = ts; next = r.next; used = r.used })) (then_one a t r.tags)
after_one_lem a t (no n p) = refl

-- Elements were read up to `place`, and the definition says of the rest what it says of the whole.
pub record Listing (t o₀ k₀ : List ℕ) (kind start at top left : ℕ) (o k : List ℕ) (place used count : ℕ) : Type 0 where
  pub turns : ℕ
  pub done : Tags
  pub enough : length t < place + turns
  pub rest : after_tags done (elements_by t (length o₀) turns (value_at t (length o₀) left) kind place used)
      ≡ elements_by t (length o₀) (suc (length t)) (value_at t (length o₀) left) kind start at
  pub count_is : count ≡ many done
  pub used_is : used ≡ at + length (element_bytes done)
  pub fits : used ≤ length o₀
  pub wrote : o ≡ over o₀ at (element_bytes done)
  pub around : take top k ≡ take top k₀
  pub on : start ≤ place
  pub within : place ≤ length t
  pub small : used ≤ 16 * place
  pub few : count ≤ place

no_bytes : element_bytes nil ≡ []
unfolding element_bytes_in
no_bytes = refl

no-many : many nil ≡ 0
unfolding many
no-many = refl

one-many : (t : Tag) → many (more t nil) ≡ 1
unfolding many
one-many t = refl

pub listing_start : (t o₀ k₀ : List ℕ) (kind start at top left : ℕ) → at ≤ length o₀ → start ≤ length t → at ≤ 16 * start
    → Listing t o₀ k₀ kind start at top left o₀ k₀ start at 0
listing_start t o₀ k₀ kind start at top left h l g = record {
  turns = suc (length t);
  done = nil;
  enough = omega arith;
  rest = after_none (elements_by t (length o₀) (suc (length t)) (value_at t (length o₀) left) kind start at);
  count_is = sym no-many;
  used_is = omega (arith, ap length no_bytes);
  fits = h;
  wrote = sym (ap (over o₀ at) no_bytes ∙ over_none o₀ at);
  around = refl;
  on = omega arith;
  within = l;
  small = g;
  few = omega arith;
}

module _ {t o₀ k₀ : List ℕ} {kind start at top left : ℕ} {o k : List ℕ} {place used count : ℕ} (s : Listing t o₀ k₀ kind start at top left o k place used count) where
  abbrev reads : Reads
  reads = value_at t (length o₀) left

  abbrev whole_list : Out Row
  whole_list = elements_by t (length o₀) (suc (length t)) reads kind start at

  pub listing-long : length o ≡ length o₀
  listing-long = ap length s.wrote ∙ over-length o₀ at (element_bytes s.done) (omega (arith, s.used_is, s.fits))

  -- a turn, by what the definition says of it
  turn : {P : Type 0} → ((f : ℕ) → length t < place + suc f → after_tags s.done (elements_by t (length o₀) (suc f) reads kind place used) ≡ whole_list → P) → P
  turn {P} g = go s.turns s.enough s.rest
    where
      go : (n : ℕ) → length t < place + n → after_tags s.done (elements_by t (length o₀) n reads kind place used) ≡ whole_list → P
      go zero h e = absurd (omega (arith, h, s.within))
      go (suc f) h e = g f h e

  listing-refused : (a b : ℕ) → ((f : ℕ) → elements_by t (length o₀) (suc f) reads kind place used ≡ no a b) → whole_list ≡ no a b
  listing-refused a b e = turn (λ f h r. sym r ∙ ap (after_tags s.done) (e f))

  pub listing-no : (x : Refused) → ElementIs t place (Err x) → whole_list ≡ no (number_of x.refusal) x.place
  listing-no x e = listing-refused (number_of x.refusal) x.place (λ f. e (length o₀) f reads kind used)

  pub listing-end : (m : ℕ) → ElementIs t place (Ok (NextElement.End m))
      → ParsedElements t o₀ k₀ kind start at top left (Ok (record { next = m; used = used; count = count })) o k
  listing-end m (e, g, l) = (
    record {
      row = record { tags = s.done; next = m; used = used };
      same = turn (λ f h r.
          sym r ∙ ap (after_tags s.done) (e (length o₀) f reads kind used)
          ∙ ap (λ ts. got (record { tags = ts; next = m; used = used })) (then-nil s.done));
      next_is = refl;
      used_is = refl;
      count_is = s.count_is;
      size_is = s.used_is;
      fits = s.fits;
      wrote = s.wrote;
    },
    record { around = s.around; on = omega (arith, s.on, g); within = l; small = omega (arith, s.small, g) },
    omega (arith, s.few, g),
  )

  -- a comma, and the next element from m on
  module _ (m : ℕ) (next : ElementIs t place (Ok (NextElement.Is m))) where
    pub listing-value-no : (a b : ℕ) → value_from t (length o) (value_at t (length o) left) later kind m used ≡ no a b → whole_list ≡ no a b
    listing-value-no a b g = listing-refused a b (λ f. next.0 (length o₀) f reads kind used ∙ rw (rw listing-long at g) refl)

    step : {o' : List ℕ} {n u kind' : ℕ} → (f : ℕ) (did : Did (value_from t (length o₀) reads later kind m used) o used n u kind' o')
        → elements_by t (length o₀) (suc f) reads kind place used ≡ (elements_by t (length o₀) f reads kind n u >>= more_tag did.value.tag)
    step f did =
        next.0 (length o₀) f reads kind used
        ∙ rw did.same (λ j. elements_by t (length o₀) f reads kind (sym did.next_is j) (sym did.used_is j) >>= more_tag did.value.tag)

    pub listing-more : (o' k' : List ℕ) (d : Done) → ParsedValue t o k later kind m used top left (Ok d) o' k'
        → Listing t o₀ k₀ kind start at top left o' k' d.next d.used (count + 1)
    listing-more o' k' d (value, went) =
        let did : Did (value_from t (length o₀) reads later kind m used) o used d.next d.used d.kind o' = rw listing-long at value in
        let v = did.value.tag in
        let all = ◌then◌ s.done (more v nil) in
        let bytes_are : element_bytes all ≡ element_bytes s.done ++ payload v =
        bytes-then s.done (more v nil) ∙ ap (λ x. element_bytes s.done ++ x) (bytes_one v) in
        turn (λ f h r. record {
          turns = f;
          done = all;
          enough = omega (arith, h, next.1, went.on);
          rest = sym (after_one_lem s.done v (elements_by t (length o₀) f reads kind d.next d.used)) ∙ ap (after_tags s.done) (sym (step f did)) ∙ r;
          count_is = omega (arith, s.count_is, many-then s.done (more v nil), one-many v);
          used_is = omega (arith, s.used_is, did.size_is, ap length bytes_are, length-append (element_bytes s.done) (payload v));
          fits = omega (arith, did.fits, listing-long);
          wrote =
              did.wrote ∙ rw (s.wrote, s.used_is) (over-over o₀ at (element_bytes s.done) (omega (arith, s.used_is, s.fits)) (payload v))
              ∙ ap (over o₀ at) (sym bytes_are);
          around = went.around ∙ s.around;
          on = omega (arith, s.on, next.1, went.on);
          within = went.within;
          small = went.small;
          few = omega (arith, s.few, next.1, went.on);
        })
