-- `snbt_keys::index_of` meets its contract: the name is a part of the output, and the run has it not.
-- Assumes nothing.
use Rattle.std.proofs.Common.{◌≡◌, ℕ, List, false, Option, Some, None, sym, ◌∙◌, ◌-◌}
use Rattle.std.specs.Option.{unwrap_or}
use Rattle.snbt_form.specs.Text.{known}
use Rattle.snbt_keys.specs.Keys.{FreeIn, SpotIn, names_in}
use Rattle.snbt_keys.proofs.Orders.{true-false}
use Rattle.snbt_keys.proofs.Names.{name-part}
use Rattle.snbt_keys.proofs.index_of.Goals as goal

-- an index is found for a name that is not there
found : {o k : List ℕ} {base top : ℕ} {s : List ℕ} (r : Option ℕ) (z : ℕ) → SpotIn o k base top s r → known s (names_in o k base (top - base)) ≡ false
    → FreeIn o k base top s (unwrap_or r z)
found None z h e = true-false (sym h ∙ e)
found (Some i) z h e = h

pub returns : goal.returns
returns c =
    let a = c.args in
    let n = name-part a.out.now a.place c.u16_at-size.result c.u16_at-size.ensures c.requires.1 in
    rw c.unwrap_or.ensures (found c.halve.result a.top (rw n at c.halve.ensures) c.requires.2)
