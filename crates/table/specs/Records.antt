-- What the contracts on records cite: the words of the struct, and the two sorts of record.
-- Assumes nothing.
use Rattle.std.specs.Prelude.{ℕ, ◌<◌, ◌^◌, List, [], ◌∷◌}
use Rattle.table.specs.declared.Record.{Record}

-- The words of a record, in rule 6's order.
abbrev pub record_words : Record → List ℕ
record_words r =
    r.kind ∷ r.name ∷ r.name_len ∷ r.start ∷ r.len ∷ r.count ∷ r.list_kind ∷ r.end ∷ r.parent ∷ []

-- The record of a list or a compound.
abbrev pub container_of : ℕ → ℕ → ℕ → ℕ → ℕ → ℕ → ℕ → Record
container_of k n l c lk e p = record { kind = k; name = n; name_len = l; start = 0; len = 0; count = c; list_kind = lk; end = e; parent = p }

-- The record of what holds no records.
abbrev pub leaf_of : ℕ → ℕ → ℕ → ℕ → ℕ → ℕ → ℕ → ℕ → Record
leaf_of k n l s z c e p = record { kind = k; name = n; name_len = l; start = s; len = z; count = c; list_kind = 0; end = e; parent = p }

-- A kind and a name's span fit words.
pub record Small (kind name len : ℕ) : Type 0 where
  pub kind_lt : kind < 2 ^ 32
  pub name_lt : name < 2 ^ 32
  pub len_lt : len < 2 ^ 32
