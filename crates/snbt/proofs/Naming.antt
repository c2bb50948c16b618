-- An entry of a compound: what `parse_entry` answers, from what its calls answered.
-- Assumes nothing.
use Prim.Native.Nat.{ℕ, ◌+◌, ◌-◌, ◌*◌, ◌≤◌, ◌<◌}
use mathlib.Core.Path.{◌≡◌, refl, sym, ap, ◌∙◌}
use mathlib.Core.Bool.{◌||◌}
use mathlib.Core.List.{List, [], ◌∷◌, ◌++◌}
use native.Mathlib.Omega.{arith}
use lib.ListN.{length, take}
use Rattle.form.specs.Answer.{Out, got, ◌>>=◌, unmatched_brace}
use Rattle.form.specs.Spans.{over, part, same}
use Rattle.form.proofs.Places.{part-over}
use Rattle.form.specs.Tree.{kind_of}
use Rattle.form.specs.Layout.{payload, string_bytes}
use Rattle.form.proofs.Table.{over_none, over-length, over-over}
use Rattle.snbt_form.specs.Lexing.{value}
use Rattle.snbt_form.specs.Text.{Then, goes_on, closes, Last, following, value_at, known}
use Rattle.snbt_keys.specs.Keys.{Kept, name_at, names_in, Named, Comes, Added}
use Rattle.snbt_keys.proofs.Keys.{named_put, named-name, part-take}
use Rattle.snbt_keys.proofs.Shifts.{take_less}
use Rattle.snbt_keys.proofs.Runs.{kept_same, names-kept, free-same}
use Rattle.snbt_placing.specs.Done.{Did}
use Rattle.snbt_due.specs.Due.{value_from}
use Rattle.snbt_entries.specs.declared.Block.{Block as Open}
use Rattle.snbt_entries.specs.declared.EntryTurn.{EntryTurn}
use Rattle.snbt_entries.specs.declared.Key.{Key}
use Rattle.std.specs.Prelude.{Result, Ok, Err}
use Rattle.form.specs.declared.refusals.Refused.{Refused}
use Rattle.snbt_entries.specs.Entries.{Entered, stops, enters, entry_turn, KeyedIs, Keyed, SettledIs}
use Rattle.snbt.specs.Turns.{Turned, Went}
use Rattle.snbt.specs.Steps.{Grown, ParsedEntry}
use Rattle.snbt.proofs.Bytes.{name-size, entry-size, entry-over, take-over}

-- ---- a name in the output

-- a name behind a byte and before other bytes stands there with its length
module _ (o : List ℕ) (at kind : ℕ) (s ps : List ℕ) (h : length s < 65536) (f : at + 3 + length s + length ps ≤ length o) where
  abbrev entry : List ℕ
  entry = over o at (kind ∷ string_bytes s ++ ps)

  -- without what stands behind it
  abbrev named : List ℕ
  named = over (over o at (kind ∷ [])) (at + 1) (string_bytes s)

  abbrev end : ℕ
  end = at + 1 + length (string_bytes s)

  same-front : take end entry ≡ take end named
  same-front =
      let two = name-size s in
      let l : length (over o at (kind ∷ [])) ≡ length o = over-length o at (kind ∷ []) (omega (arith, f)) in
      let m : length named ≡ length o = over-length (over o at (kind ∷ [])) (at + 1) (string_bytes s) (omega (arith, two, l, f)) ∙ l in
      let both : over named end ps ≡ entry =
      over-over (over o at (kind ∷ [])) (at + 1) (string_bytes s) (omega (arith, two, l, f)) ps ∙ over-over o at (kind ∷ []) (omega (arith, f)) (string_bytes s ++ ps) in
      ap (take end) (sym both) ∙ take-over named end end ps (omega arith) (omega (arith, m, two, f))

  named-within : Named entry (at + 1) (at + 3 + length s + length ps) s
  named-within =
      let two = name-size s in
      let l : length (over o at (kind ∷ [])) ≡ length o = over-length o at (kind ∷ []) (omega (arith, f)) in
      let here : part entry (at + 1) (length (string_bytes s)) ≡ string_bytes s =
      sym (part-take entry end (at + 1) (length (string_bytes s)) (omega arith))
      ∙ ap (λ z. part z (at + 1) (length (string_bytes s))) same-front
      ∙ part-take named end (at + 1) (length (string_bytes s)) (omega arith)
      ∙ part-over (over o at (kind ∷ [])) (at + 1) (string_bytes s) (omega (arith, l, f)) in
      named_put entry (at + 1) (at + 3 + length s + length ps) s h (rw two at here) (omega arith)

known-head : (x s : List ℕ) (ns : List (List ℕ)) → known x (s ∷ ns) ≡ (same s x || known x ns)
unfolding known
known-head x s ns = refl

-- ---- a turn of a compound

module _ (t o k : List ℕ) (b : Open) (last : Last) (p at top left : ℕ) where
  abbrev turn : Out Entered
  turn = entry_turn t (length o) (value_at t (length o) left) b.brace.0 (names_in o k b.base (top - b.base)) last p at

  -- The `}` in the place of a key.
  pub entry-end : (buffer : List ℕ) (i : _) (m : ℕ) → KeyedIs t b.brace.0 last p o k b.base top buffer (Ok (Key.End i m))
      → at ≤ length o → at ≤ 16 * p → ParsedEntry t o k b last p at top left (Ok (EntryTurn.Last i m at)) o k
  entry-end buffer i m e f g =
      record {
        turned = record {
          entered = stops i.0 m;
          same = e.0 (length o) (value_at t (length o) left) at;
          then_is = refl;
          used_is = refl;
          size_is = omega arith;
          fits = f;
          wrote = sym (over_none o at);
        };
        around = refl;
        far = e.1;
        within = e.2;
        small = omega (arith, e.1, g);
      }

  -- an entry whose key of n bytes belongs at i, and whose value is due at m
  module _ (buffer : List ℕ) (n i m : ℕ) (kept : Kept o k b.base top at) (room : top < length k) (keyed : Keyed t b.brace.0 last p o k b.base top buffer n i m) where
    abbrev s : List ℕ
    s = keyed.name

    begun : turn ≡ (value_from t (length o) (value_at t (length o) left) value 0 m (at + 3 + n)
        >>= (λ v. following t (length o) 125 v.next unmatched_brace b.brace.0 >>= (λ th. got (enters s v th))))
    begun =
        let z : at + (3 + length s) ≡ at + 3 + n = omega (arith, keyed.fit.length_is) in
        keyed.is (length o) (value_at t (length o) left) at ∙ rw z refl

    -- the name is put, the value is read on to q, up to u, and then the id is put
    module _ (o₁ o₂ o₃ k₂ : List ℕ) (q u kind : ℕ) (l : length o₁ ≡ length o) (l₂ : length k₂ ≡ length k)
        (wrote : at + 1 + 2 + n ≤ length o → o₁ ≡ over o (at + 1) (string_bytes (take n buffer)))
        (did : Did (value_from t (length o₁) (value_at t (length o₁) left) value 0 m (at + 3 + n)) o₁ (at + 3 + n) q u kind o₂)
        (went : Went t k top m q u k₂) (put : o₃ ≡ over o₂ at (kind ∷ [])) where
      abbrev ps : List ℕ
      ps = payload did.value.tag

      abbrev laid_out : List ℕ
      laid_out = kind_of did.value.tag ∷ string_bytes s ++ ps

      fits : at + 3 + length s + length ps ≤ length o
      fits = omega (arith, did.size_is, did.fits, l, keyed.fit.length_is)

      whole : o₃ ≡ over o at laid_out
      whole =
          let z : at + 3 + n ≡ at + 3 + length s = omega (arith, keyed.fit.length_is) in
          entry-over o o₁ o₂ o₃ at kind s did.value.tag fits
          (wrote (omega (arith, did.size_is, did.fits, l)) ∙ ap (λ x. over o (at + 1) (string_bytes x)) keyed.fit.stands)
          (did.wrote ∙ ap (λ x. over o₁ x ps) z) did.kind_is put

      read : turn ≡ (following t (length o) 125 q unmatched_brace b.brace.0 >>= (λ th. got (enters s did.value th)))
      read =
          begun ∙ rw (rw l at did.same)
          (ap (λ z. following t (length o) 125 z unmatched_brace b.brace.0 >>= (λ th. got (enters s did.value th))) (sym did.next_is))

      abbrev turned : (th : Then) → following t (length o) 125 q unmatched_brace b.brace.0 ≡ got th → Turned turn o at u th o₃
      turned th e = record {
        entered = enters s did.value th;
        same = read ∙ rw e refl;
        then_is = refl;
        used_is = did.used_is;
        size_is = omega (arith, did.size_is, keyed.fit.length_is, entry-size s did.value.tag);
        fits = omega (arith, did.fits, l);
        wrote = whole;
      }

      is-named : Named o₃ (at + 1) u s
      is-named =
          let z : u ≡ at + 3 + length s + length ps = omega (arith, did.size_is, keyed.fit.length_is) in
          rw (whole, z) (named-within o at (kind_of did.value.tag) s ps (omega (arith, keyed.fit.short, keyed.fit.length_is)) fits)

      long : length o₃ ≡ length o
      long = ap length whole ∙ over-length o at laid_out (omega (arith, fits, entry-size s did.value.tag))

      front : take at o ≡ take at o₃
      front = sym (ap (take at) whole ∙ take-over o at at laid_out (omega arith) kept.second.within)

      name-is : name_at o₃ (at + 1) ≡ s
      name-is = named-name is-named

      -- The key may be put among the others.
      pub entry-comes : Comes o₃ k₂ b.base top i (at + 1)
      entry-comes = record {
        kept = kept_same kept o₃ k₂ front (sym went.around) (omega arith) (omega (arith, long, fits));
        room = omega (arith, room, l₂);
        ends = omega (arith, is-named.size, is-named.ends, did.fits, long, l);
        free = rw name-is (free-same kept o₃ k₂ front (sym went.around) keyed.fit.free);
      }

      module _ (k₃ : List ℕ) (added : Added o₃ k₂ b.base top (at + 1) k₃) where
        around : take b.base k₃ ≡ take b.base k
        around = added.around ∙ take_less b.base top k₂ k (omega (arith, kept.first.low, kept.second.low)) went.around

        grown : (c m' : ℕ) → following t (length o) 125 q unmatched_brace b.brace.0 ≡ got (goes_on c m') → q < m' → m' ≤ length t
            → Grown turn t o k b.base top at p c m' u o₃ k₃
        grown c m' e h w = record {
          turned = turned (goes_on c m') e;
          kept = kept_same added.kept o₃ k₃ refl refl (omega (arith, is-named.size, is-named.ends)) (omega (arith, long, did.fits, l));
          names = λ x.
              known-head x s (names_in o k b.base (top - b.base))
              ∙ ap (λ ns. same s x || known x ns) (names-kept kept o₃ k₂ front (sym went.around)) ∙ sym (rw name-is at (added.alike x));
          around = around;
          far = omega (arith, keyed.fit.far, went.on, h);
          within = w;
          small = omega (arith, went.small, h);
        }

        -- What follows it.
        pub entry-settled : (r : Result EntryTurn Refused) → SettledIs t q u b.brace.0 r → ParsedEntry t o k b last p at top left r o₃ k₃
        entry-settled (Ok (EntryTurn.More c m' u')) (e, h, w, z) = rw z (grown c.0 m' (e (length o)) h w)
        entry-settled (Ok (EntryTurn.Last j m' u')) (e, h, w, z) =
            rw z (record {
              turned = turned (closes j.0 m') (e (length o));
              around = around;
              far = omega (arith, keyed.fit.far, went.on, h);
              within = w;
              small = omega (arith, went.small, h);
            })
        entry-settled (Err x) e = read ∙ rw (e (length o)) refl
