-- The proof of the cycle of calls {put_all, put_one}. Each member's answers stand in a file of `Proof/`.
-- Assumes nothing.
mod Common
mod All
mod One
use Rattle.nbt_writer.proofs.put_all.Reads as put_all_lem
use Rattle.nbt_writer.proofs.put_one.Reads as put_one
use Rattle.nbt_writer.proofs.+put_all_put_one.Lts-put_all as put-all-lts
use Rattle.nbt_writer.proofs.+put_all_put_one.Lts-put_one as put-one-lts
use Rattle.nbt_writer.proofs.+put_all_put_one.{statement}
use Rattle.nbt_writer.proofs.+put_all_put_one.Tie.{close}
use Common.{μ-put-all, μ-put-one, put_all-at, put_one-at}

pub +put_all_put_one_spec : {M : Type 1} → statement M
+put_all_put_one_spec =
    close μ-put-all μ-put-one
    (λ t. put-all-lts.spec (All.claims t) (put_all-at t) put_all_lem.Post All.Inv-loop All.μ-loop
    (All.loop-holds t)
    (All.word-requires t)
    (All.put-one-requires t)
    (All.loop-less t)
    (All.loop-again t)
    (All.same_length t)
    (All.returns t))
    (λ t. put-one-lts.spec (One.claims t) (put_one-at t) put_one.Post
    (One.put-name-requires t)
    (One.word-requires t)
    (One.put-list-requires t)
    (One.add-put-all t)
    (One.put-all-requires t)
    (One.add-put-all-2 t)
    (One.put-all-requires-2 t)
    (One.put-number-requires t)
    (One.add-result t)
    (One.put-leaf-requires t)
    (One.same_length t)
    (One.returns t)
    (One.same-length-2 t)
    (One.returns-2 t)
    (One.same-length-3 t)
    (One.returns-3 t))
