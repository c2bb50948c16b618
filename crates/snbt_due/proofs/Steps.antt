-- What a token that was found leads to, by what was found: laws for the answers of the functions, over plain values.
-- Assumes nothing.
use Prim.Native.Nat.{ℕ, ◌≤◌, ◌<◌}
use mathlib.Core.Path.{◌≡◌}
use mathlib.Core.List.{List}
use native.Mathlib.Omega.{arith}
use lib.ListN.{length}
use Rattle.form.specs.Answer.{got, no, unexpected_token}
use Rattle.snbt_form.specs.Lexing.{Stops, default, TokenData, found, token_at}
use Rattle.snbt_form.specs.Text.{goes_on, closes, sign_of, following}
use Rattle.snbt_form.proofs.Moves.{token-moves}
use Rattle.snbt_due.specs.Due.{Met}
use Rattle.snbt_due.proofs.Reading.{due-found, following-comma, following-close, following-other}

-- a token that was found at a place
pub met_at : (set : Stops) (t : List ℕ) (p : ℕ) (d : TokenData) (m : ℕ) → token_at set t p ≡ got (found d m) → p ≤ length t → Met t d m
met_at set t p d m e h = record { set = set; from = p; within = h; is = e }

-- ---- what follows

module _ (t : List ℕ) (closing p n q : ℕ) (d : TokenData) (m : ℕ) (e : token_at default t p ≡ got (found d m)) (h : p ≤ length t) where
  moved : (p < m) × (m ≤ length t)
  moved = let z = token-moves default t p d m e h in (omega (arith, z.0, z.1), z.2)

  pub after-comma : sign_of d.token ≡ 44 → ((room : ℕ) → following t room closing p n q ≡ got (goes_on d.index m)) × (p < m) × (m ≤ length t)
  after-comma s = ((λ room. following-comma t room closing p n q (record { td = d; next = m }) (due-found t room default p n q d m e) s), moved.0, moved.1)

  pub after-close : (sign_of d.token ≡ 44 → ⊥) → sign_of d.token ≡ closing → ((room : ℕ) → following t room closing p n q ≡ got (closes d.index m)) × (p < m) × (m ≤ length t)
  after-close g s = ((λ room. following-close t room closing p n q (record { td = d; next = m }) (due-found t room default p n q d m e) g s), moved.0, moved.1)

  pub after-other : (sign_of d.token ≡ 44 → ⊥) → (sign_of d.token ≡ closing → ⊥) → (room : ℕ) → following t room closing p n q ≡ no unexpected_token d.index
  after-other g s room = following-other t room closing p n q (record { td = d; next = m }) (due-found t room default p n q d m e) g s
