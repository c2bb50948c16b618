-- Laws of the two editions (Moved.antt): words form a table exactly if a tree's records are got from them, and are then that tree's.
-- Assumes nothing.
use Prim.Native.Nat.{ℕ, ◌+◌, ◌*◌, ◌/◌, ◌≤◌, ◌<◌}
use mathlib.Core.Path.{◌≡◌, refl, sym, ap, subst, ◌∙◌}
use mathlib.Core.List.{List, [], ◌++◌, append-nil}
use mathlib.Core.Bool.{false}
use native.Mathlib.Omega.{arith}
use lib.ListN.{length, drop}
use lib.Seq.{drop-length}
use borrow.Author.Tests.{le-leb, lt-leb}
use Rattle.form.specs.Answer.{no, over_limit, document_limit, record_limit}
use Rattle.form.specs.Table.{Head, Forest, none, node, size, flat}
use Rattle.form.specs.Tables.{Fair}
use Rattle.form.specs.Eight.{old_word, old_flat}
use Rattle.form.specs.Stored.{lines_read}
use Rattle.form.specs.Moved.{Edition, eight, nine, words_in, parented, word_in, flat_in, Forms, tree_in, movable}
use Rattle.form.specs.Records.{SitsAt, UnderAt}
use Rattle.form.proofs.Table.{size-one, flat-length}
use Rattle.form.proofs.Tables.{sits-words}
use Rattle.form.proofs.Records.{sits-at, at-sits, under-above, above-under, above-free}
use Rattle.form.proofs.Rows.{Grown}
use Rattle.form.proofs.Eight.{old-length, old-sits, flat-sits, sits-old}

-- ---- the words of a tree

pub flat-in-length : (e : Edition) (f : Forest) → length (flat_in e f) ≡ words_in e * size f
flat-in-length eight f = old-length f
flat-in-length nine f = flat-length 0 0 f

-- A tree's records are got from its words, with their parents.
pub flat-in-sits : (e : Edition) (f : Forest) → SitsAt (word_in e (flat_in e f)) 0 f
flat-in-sits eight f = old-sits f
flat-in-sits nine f = sits-at (flat 0 0 f) 0 f (flat-sits f).0

pub flat-in-under : (e : Edition) (f : Forest) → UnderAt (word_in e (flat_in e f)) (parented e) 0 0 f
flat-in-under eight f = above-free (old_word (old_flat 0 f)) 0 0 f
flat-in-under nine f = under-above (flat 0 0 f) 0 0 f (flat-sits f).1

-- Words from which a tree's records are got, with their parents, are its own.
pub sits-flat-in : (e : Edition) (ws : List ℕ) (f : Forest) → length ws ≡ words_in e * size f → SitsAt (word_in e ws) 0 f → UnderAt (word_in e ws) (parented e) 0 0 f
    → ws ≡ flat_in e f
sits-flat-in eight ws f long s u = sits-old ws f s long
sits-flat-in nine ws f long s u =
    let z : 9 * (0 + size f) ≡ length ws = omega arith in
    let rest : drop (9 * (0 + size f)) ws ≡ [] = rw z (drop-length ws) in
    sym (sym (append-nil (flat 0 0 f))
    ∙ ap (λ (l : List ℕ). flat 0 0 f ++ l) (sym rest)
    ∙ sits-words ws 0 0 f (at-sits ws 0 f s (omega arith)) (above-under ws 0 0 f u))

-- ---- tables

-- What it is to form a table, in both editions alike.
pub record Formed (e : Edition) (d : ℕ) (ws : List ℕ) : Type 0 where
  pub head : Head
  pub inner : Forest
  pub compound : head.kind ≡ 10
  pub fair : Fair d false (node head inner none)
  pub these : ws ≡ flat_in e (node head inner none)

pub forms : (e : Edition) (d : ℕ) (ws : List ℕ) → Formed e d ws → Forms e d ws
forms eight d ws t = record { head = t.head; inner = t.inner; compound = t.compound; fair = t.fair; these = t.these }
forms nine d ws t = record { head = t.head; inner = t.inner; compound = t.compound; fair = t.fair; these = t.these }

pub formed : (e : Edition) (d : ℕ) (ws : List ℕ) → Forms e d ws → Formed e d ws
formed eight d ws t = record { head = t.head; inner = t.inner; compound = t.compound; fair = t.fair; these = t.these }
formed nine d ws t = record { head = t.head; inner = t.inner; compound = t.compound; fair = t.fair; these = t.these }

-- The tree is the same one.
pub forms-tree : (e : Edition) (d : ℕ) (ws : List ℕ) (t : Formed e d ws) → tree_in e d ws (forms e d ws t) ≡ node t.head t.inner none
unfolding forms
forms-tree eight d ws t = refl
forms-tree nine d ws t = refl

pub formed-tree : (e : Edition) (d : ℕ) (ws : List ℕ) (t : Forms e d ws) → tree_in e d ws t ≡ node (formed e d ws t).head (formed e d ws t).inner none
unfolding formed
formed-tree eight d ws t = refl
formed-tree nine d ws t = refl

-- How many records so many words are.
pub records-of : (e : Edition) (k m : ℕ) → k ≡ words_in e * m → k / words_in e ≡ m
records-of eight k m h = omega arith
records-of nine k m h = omega arith

module _ (e : Edition) (d : ℕ) (ws : List ℕ) where
  -- A table has so many words for each of its records,
  pub formed-length : (t : Formed e d ws) → length ws ≡ words_in e * (1 + size t.inner)
  formed-length t =
      ap length t.these ∙ flat-in-length e (node t.head t.inner none) ∙ ap (λ (k : ℕ). words_in e * k) (size-one t.head t.inner)

  -- and so as many records as its words are.
  pub formed-records : (t : Formed e d ws) (n : ℕ) → length ws ≡ words_in e * n → 1 + size t.inner ≡ n
  formed-records t n long = sym (records-of e (length ws) (1 + size t.inner) (formed-length t)) ∙ records-of e (length ws) n long

  -- The records of a table are a tree's,
  pub formed-grown : (t : Formed e d ws) → Grown d (word_in e ws) (parented e) (1 + size t.inner)
  formed-grown t = record {
    head = t.head;
    inner = t.inner;
    compound = t.compound;
    fair = t.fair;
    sits = rw t.these (flat-in-sits e (node t.head t.inner none));
    under = rw t.these (flat-in-under e (node t.head t.inner none));
    sized = refl;
  }

  -- and words from which a tree's are got are a table.
  pub grown-formed : (n : ℕ) → length ws ≡ words_in e * n → Grown d (word_in e ws) (parented e) n → Formed e d ws
  unfolding size
  grown-formed n long g =
      let f : Forest = node g.head g.inner none in
      let many : n ≡ size f = omega (arith, g.sized) in
      record {
        head = g.head;
        inner = g.inner;
        compound = g.compound;
        fair = g.fair;
        these = sits-flat-in e ws f (subst (λ (k : ℕ). length ws ≡ words_in e * k) many long) g.sits g.under;
      }

-- ---- the limits

module _ (e : Edition) (d : ℕ) (s : List ℕ) where
  -- Within the document's limit the lines decide,
  pub movable-lines : d ≤ document_limit → movable e d s ≡ lines_read (words_in e) record_limit s
  unfolding movable
  movable-lines h = rw (le-leb d document_limit h) refl

  -- and past it is 9.
  pub movable-large : document_limit < d → movable e d s ≡ no over_limit 0
  unfolding movable
  movable-large h = rw (lt-leb d document_limit h) refl
