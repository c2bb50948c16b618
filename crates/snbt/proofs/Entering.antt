-- Compounds: how far the loop of `parse_entries` has come, and what `parse_compound_tag` answers.
-- Assumes nothing.
use Prim.Native.Nat.{ℕ, zero, suc, ◌+◌, ◌-◌, ◌*◌, ◌≤◌, ◌<◌}
use mathlib.Core.Path.{◌≡◌, refl, sym, ap, subst, ◌∙◌}
use mathlib.Core.List.{List, [], ◌∷◌, ◌++◌}
use native.Mathlib.Omega.{arith}
use lib.ListN.{length, take, length-append}
use Rattle.form.specs.Answer.{Out, got, no, ◌>>=◌}
use Rattle.form.specs.Spans.{over}
use Rattle.form.specs.Tree as tree
use Rattle.form.specs.Tree.{Entries, ended}
use Rattle.form.specs.Layout.{payload}
use Rattle.form.proofs.Table.{over_none, over-length, over-over}
use Rattle.snbt_form.specs.Text.{Block, Then, goes_on, closes, Last, otherwise, after_comma, Reads, behind, close_at, entries_by, value_at}
use Rattle.snbt_keys.specs.Keys.{Kept, names_in}
use Rattle.snbt_keys.proofs.Runs.{kept-none}
use Rattle.snbt_placing.specs.declared.Done.{Done}
use Rattle.std.specs.Prelude.{Result, Ok, Err}
use Rattle.form.specs.Refusals.{number_of}
use Rattle.form.specs.declared.refusals.Refused.{Refused}
use Rattle.snbt_entries.specs.declared.Block.{Block as Open}
use Rattle.snbt_entries.specs.declared.EntryTurn.{EntryTurn}
use Rattle.snbt_entries.specs.Entries.{Entered, entry_turn, CloseIs}
use Rattle.snbt.specs.Turns.{inner, before, name_before, entered_bytes, Turned, block_value}
use Rattle.snbt.specs.Steps.{Grown, Closed, ParsedEntry, ParsedEntries, ParsedCompound}
use Rattle.snbt.proofs.Reading.{joined, after_turn, entries-turn, entries-known, compound-in, inner_is}
use Rattle.snbt.proofs.Bytes.{◌and◌, laid, and-before, laid-before, laid-ended, compound-kind, compound-bytes}
use Rattle.snbt_keys.proofs.Names.{names-none}

-- the entries so far, then the rest
abbrev after_entries : Entries → Out Block → Out Block
after_entries a (got b) = got (record { entries = ◌and◌ a b.entries; next = b.next; used = b.used })
after_entries a (no n p) = no n p

after-ended : (o : Out Block) → after_entries ended o ≡ o
unfolding ◌and◌
after-ended (got b) = refl
after-ended (no n p) = refl

after-entered : (a : Entries) (e : Entered) (o : Out Block) → after_entries a (o >>= joined e) ≡ after_entries (◌and◌ a (before e ended)) o
after-entered a e (got r) = ap (λ es. got (record { entries = es; next = r.next; used = r.used })) (and-before a e r.entries)
after-entered a e (no n p) = refl

nothing-laid : laid ended ≡ []
unfolding laid
nothing-laid = refl

-- Entries were read up to `place`, and the definition says of the rest what it says of the whole.
pub record Entering (t o₀ k₀ : List ℕ) (b : Open) (start at left : ℕ) (o k : List ℕ) (place used top : ℕ) (last : Last) : Type 0 where
  pub turns : ℕ
  pub done : Entries
  pub enough : length t < place + turns
  pub rest : after_entries done (entries_by t (length o₀) turns (value_at t (length o₀) left) b.brace.0 (names_in o k b.base (top - b.base)) last place used)
      ≡ entries_by t (length o₀) (suc (length t)) (value_at t (length o₀) left) b.brace.0 [] otherwise start at
  pub used_is : used ≡ at + length (laid done)
  pub wrote : o ≡ over o₀ at (laid done)
  pub kept : Kept o k b.base top used
  pub long : length o ≡ length o₀
  pub around : take b.base k ≡ take b.base k₀
  pub on : start ≤ place
  pub within : place ≤ length t
  pub small : used ≤ 16 * place
  pub tops : 3 * top ≤ place

pub entering-start : (t o₀ k₀ : List ℕ) (b : Open) (start at left : ℕ) → at ≤ length o₀ → b.base ≤ length k₀ → start ≤ length t → at ≤ 16 * start → 3 * b.base ≤ start
    → Entering t o₀ k₀ b start at left o₀ k₀ start at b.base otherwise
entering-start t o₀ k₀ b start at left h f l g z =
    let whole : List (List ℕ) → Out Block = λ ns. entries_by t (length o₀) (suc (length t)) (value_at t (length o₀) left) b.brace.0 ns otherwise start at in
    record {
      turns = suc (length t);
      done = ended;
      enough = omega arith;
      rest = after-ended (whole (names_in o₀ k₀ b.base (b.base - b.base))) ∙ ap whole (names-none o₀ k₀ b.base);
      used_is = omega (arith, ap length nothing-laid);
      wrote = sym (ap (over o₀ at) nothing-laid ∙ over_none o₀ at);
      kept = kept-none o₀ k₀ b.base at h f;
      long = refl;
      around = refl;
      on = omega arith;
      within = l;
      small = g;
      tops = z;
    }

module _ {t o₀ k₀ : List ℕ} {b : Open} {start at left : ℕ} {o k : List ℕ} {place used top : ℕ} {last : Last} (s : Entering t o₀ k₀ b start at left o k place used top last) where
  abbrev val : Reads
  val = value_at t (length o₀) left

  abbrev whole_block : Out Block
  whole_block = entries_by t (length o₀) (suc (length t)) val b.brace.0 [] otherwise start at

  abbrev names : List (List ℕ)
  names = names_in o k b.base (top - b.base)

  -- this turn, and what follows it
  abbrev here : Out Entered
  here = entry_turn t (length o₀) val b.brace.0 names last place used

  abbrev after : ℕ → Entered → Out Block
  after f = after_turn t (length o₀) f val b.brace.0 names used

  turn : {P : Type 0} → ((f : ℕ) → length t < place + suc f → after_entries s.done (here >>= after f) ≡ whole_block → P) → P
  turn {P} g = go s.turns s.enough s.rest
    where
      go : (n : ℕ) → length t < place + n → after_entries s.done (entries_by t (length o₀) n val b.brace.0 names last place used) ≡ whole_block → P
      go zero h e = absurd (omega (arith, h, s.within))
      go (suc f) h e = g f h (ap (after_entries s.done) (sym (entries-turn t (length o₀) f val b.brace.0 names last place used)) ∙ e)

  entering-refused : (a q : ℕ) → here ≡ no a q → whole_block ≡ no a q
  entering-refused a q e = turn (λ f h r. sym r ∙ ap (λ x. after_entries s.done (x >>= after f)) e)

  pub entering-no : (x : Refused) (o' k' o'' k'' : List ℕ) → ParsedEntry t o k b last place used top left (Err x) o' k' → ParsedEntries t o₀ k₀ b start at left (Err x) o'' k''
  entering-no x o' k' o'' k'' e = ap block_value (entering-refused (number_of x.refusal) x.place (rw s.long at e))

  -- where something was entered, up to `u`
  module _ (o' : List ℕ) (u : ℕ) (th : Then) (tr : Turned here o used u th o') where
    abbrev all : Entries
    all = ◌and◌ s.done (before tr.entered ended)

    abbrev rest_behind : ℕ → Out Block
    rest_behind f = behind t (length o₀) (λ i n. entries_by t (length o₀) f val b.brace.0 (name_before tr.entered names) (after_comma i) n u) u th

    rest-on : (f : ℕ) → after_entries s.done (here >>= after f) ≡ whole_block → after_entries all (rest_behind f) ≡ whole_block
    rest-on f r =
        sym (after-entered s.done tr.entered (rest_behind f))
        ∙ rw (tr.used_is, ← tr.then_is) refl
        ∙ ap (λ x. after_entries s.done (x >>= after f)) (sym tr.same) ∙ r

    used-on : u ≡ at + length (laid all)
    used-on = omega (arith, s.used_is, tr.size_is, ap length (laid-before s.done tr.entered), length-append (laid s.done) (entered_bytes tr.entered))

    wrote_on : o' ≡ over o₀ at (laid all)
    wrote_on =
        tr.wrote
        ∙ rw (s.wrote, s.used_is) (over-over o₀ at (laid s.done) (omega (arith, s.used_is, s.kept.second.within, s.long)) (entered_bytes tr.entered))
        ∙ ap (over o₀ at) (sym (laid-before s.done tr.entered))

    long-on : length o' ≡ length o₀
    long-on = ap length tr.wrote ∙ over-length o used (entered_bytes tr.entered) (omega (arith, tr.size_is, tr.fits)) ∙ s.long

  more-on : (o' k' : List ℕ) (c m u : ℕ) → Grown here t o k b.base top used place c m u o' k' → Entering t o₀ k₀ b start at left o' k' m u (top + 1) (after_comma c)
  more-on o' k' c m u g = turn (λ f h r. record {
    turns = f;
    done = all o' u (goes_on c m) g.turned;
    enough = omega (arith, h, g.far);
    rest =
        ap (after_entries (all o' u (goes_on c m) g.turned))
        (sym (entries-known t (length o₀) val b.brace.0 f (name_before g.turned.entered names) (names_in o' k' b.base (top + 1 - b.base)) g.names (after_comma c) m u))
        ∙ rest-on o' u (goes_on c m) g.turned f r;
    used_is = used-on o' u (goes_on c m) g.turned;
    wrote = wrote_on o' u (goes_on c m) g.turned;
    kept = g.kept;
    long = long-on o' u (goes_on c m) g.turned;
    around = g.around ∙ s.around;
    on = omega (arith, s.on, g.far);
    within = g.within;
    small = g.small;
    tops = omega (arith, s.tops, g.far);
  })

  -- the `}` at i: the block that was read, or the end byte's refusal
  module _ (o' k' o'' : List ℕ) (i m u : ℕ) (g : Closed here t o k b.base used place i m u o' k') where
    abbrev es : Entries
    es = all o' u (closes i m) g.turned

    long-at : length o' ≡ length o₀
    long-at = long-on o' u (closes i m) g.turned

    used-at : u ≡ at + length (laid es)
    used-at = used-on o' u (closes i m) g.turned

    closed-by : (x : Out Block) → ((t : List ℕ) → close_at t (length o') i m u ≡ x) → whole_block ≡ after_entries es x
    closed-by x e =
        turn (λ f h r.
        sym (rest-on o' u (closes i m) g.turned f r)
        ∙ ap (after_entries es) (subst (λ (n : ℕ). close_at t n i m u ≡ x) long-at (e t)))

    last_on : (r : Result Done Refused) → CloseIs o' i m u r o'' → ParsedEntries t o₀ k₀ b start at left r o'' k'
    last_on (Err x) e = ap block_value (closed-by (no (number_of x.refusal) x.place) e)
    last_on (Ok d) (e, z₁, z₂, z₃, z₄, z₅) =
        let laid-is : payload (tree.compound (◌and◌ es ended)) ≡ laid es ++ (0 ∷ []) = compound-bytes (◌and◌ es ended) ∙ laid-ended es in (
          record {
            value = record { tag = tree.compound (◌and◌ es ended); next = m; used = u + 1 };
            same = ap block_value (closed-by (got (record { entries = ended; next = m; used = u + 1 })) e);
            next_is = z₁;
            used_is = z₂;
            kind_is = z₃ ∙ compound-kind (◌and◌ es ended);
            size_is = omega (arith, z₂, used-at, ap length laid-is, length-append (laid es) (0 ∷ []));
            fits = omega (arith, z₄, long-at);
            wrote =
                z₅ ∙ rw (wrote_on o' u (closes i m) g.turned, used-at, laid-is)
                (over-over o₀ at (laid es) (omega (arith, z₂, z₄, used-at, long-at)) (0 ∷ []));
          },
          record { around = g.around ∙ s.around; on = omega (arith, z₁, s.on, g.far); within = omega (arith, z₁, g.within); small = omega (arith, z₁, z₂, g.small) },
        )

  -- An entry and its comma.
  pub entering-more : (o' k' : List ℕ) (c : _) (m u : ℕ) → ParsedEntry t o k b last place used top left (Ok (EntryTurn.More c m u)) o' k'
      → Entering t o₀ k₀ b start at left o' k' m u (top + 1) (after_comma c.0)
  entering-more o' k' c m u g = more-on o' k' c.0 m u (rw s.long at g)

  -- The last one.
  pub entering-last : (o' k' o'' : List ℕ) (i : _) (m u : ℕ) (r : Result Done Refused) → ParsedEntry t o k b last place used top left (Ok (EntryTurn.Last i m u)) o' k'
      → CloseIs o' i.0 m u r o'' → ParsedEntries t o₀ k₀ b start at left r o'' k'
  entering-last o' k' o'' i m u r g e = last_on o' k' o'' i.0 m u (rw s.long at g) r e

-- ---- a compound behind its `{`

-- With a container left and room, a compound is its entries, read with one container fewer.
pub compound-entries : (t o k : List ℕ) (b : Open) (p at left : ℕ) (r : Result Done Refused) (o' k' : List ℕ) → (left ≡ 0 → ⊥) → at ≤ length o
    → ParsedEntries t o k b p at (left - 1) r o' k' → ParsedCompound t o k b.brace.0 p at b.base left r o' k'
compound-entries t o k b p at left r o' k' h l v =
    rw (compound-in t (length o) left (inner t (length o) left) b.brace.0 p at h l, inner_is t (length o) left h) v
