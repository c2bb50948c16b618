-- Names as numbers, records linked in a table, and lists of them in order.
-- Assumes nothing.
use Rattle.std.specs.Prelude.{ℕ, zero, suc, ◌+◌, ◌*◌, ◌^◌, ◌≤◌, ◌<◌, List, [], ◌∷◌, Bool, true, false, ◌||◌, ◌≡◌, ◌⊎◌, length, get_or, set, eqb}
use Rattle.form.specs.Numbers.{big_endian}
use Rattle.form.specs.Table.{word}
use Rattle.nbt_siblings.specs.Names.{name_of}

-- four bytes as a number
unfoldable pub four_of : List ℕ → ℕ → ℕ
four_of xs k = ((get_or xs k 0 * 256 + get_or xs (k + 1) 0) * 256 + get_or xs (k + 2) 0) * 256 + get_or xs (k + 3) 0

-- eight bytes as a number
unfoldable pub eight_of : List ℕ → ℕ → ℕ
eight_of xs k = four_of xs k * 4294967296 + four_of xs (k + 4)

-- bytes as a number (rule 1), with a digit 1 before them, so that what is longer is more
unfoldable pub num : List ℕ → ℕ
num xs = 256 ^ length xs + big_endian xs

-- a record's place in the order: its name, then its number
unfoldable pub rank : List ℕ → List ℕ → ℕ → ℕ
rank doc t i = 4294967296 * num (name_of doc t i) + i

-- the word of a record that is 0 in a table: a container's payload start, another's list kind
unfoldable pub slot_of : List ℕ → ℕ → ℕ
slot_of t i = elim (eqb (get_or t (9 * i) 0) 9 || eqb (get_or t (9 * i) 0) 10) [
  | true ↦ 9 * i + 3
  | false ↦ 9 * i + 6
]

-- what a record is linked to
unfoldable pub link : List ℕ → ℕ → ℕ
link t i = get_or t (slot_of t i) 0

-- the table with a record linked to another
unfoldable pub linked : List ℕ → ℕ → ℕ → List ℕ
linked t i v = set t (slot_of t i) v

-- a number stands in a list
unfoldable pub Mem : ℕ → List ℕ → Type 0
Mem z [] = ⊥
Mem z (x ∷ xs) = (z ≡ x) ⊎ Mem z xs

-- a, then f a, and so on: so many
unfoldable pub walk : (ℕ → ℕ) → ℕ → ℕ → List ℕ
walk f a zero = []
walk f a (suc n) = a ∷ walk f (f a) n

-- what comes after them
unfoldable pub past : (ℕ → ℕ) → ℕ → ℕ → ℕ
past f a zero = a
past f a (suc n) = past f (f a) n

-- less, or more, by the direction
abbrev pub Lt : Bool → ℕ → ℕ → Type 0
Lt true a b = a < b
Lt false a b = b < a

-- the same or equal
abbrev pub Le : Bool → ℕ → ℕ → Type 0
Le true a b = a ≤ b
Le false a b = b ≤ a

-- the keys of a list rise, or fall, by the direction
unfoldable pub Sorted : Bool → (ℕ → ℕ) → List ℕ → Type 0
Sorted u key [] = Unit {0}
Sorted u key (x ∷ xs) = ((z : ℕ) → Mem z xs → Lt u (key x) (key z)) × Sorted u key xs

-- two tables are the same but for the links of some records
pub record Agree (t₀ t : List ℕ) (U : ℕ → Type 0) : Type 0 where
  pub len : length t ≡ length t₀
  pub at : (p : ℕ) → ((i : ℕ) → U i → p ≡ slot_of t₀ i → ⊥) → get_or t p 0 ≡ get_or t₀ p 0

-- a record stands in the table and its name in the document
pub record Fit (doc t : List ℕ) (i : ℕ) : Type 0 where
  pub room : 9 * i + 9 ≤ length t
  pub within : word t i 1 + word t i 2 ≤ length doc
  pub small : i < 4294967296
