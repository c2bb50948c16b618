-- `scalar` meets its contract: each arm is the definition at that token; the six numbers are two laws, over the width.
-- Assumes nothing.
use borrow.Author.Rules.{rules}
use mathlib.Core.Path.{refl, sym, ap, subst}
use lib.ListN.{length}
use lib.Ieee.{binary64, to_bits}
use Rattle.form.specs.Answer.{got}
use Rattle.form.specs.Tree as tree
use Rattle.form.specs.Tree.{kind_of}
use Rattle.form.specs.Layout.{payload_in}
use Rattle.raw.proofs.Signs.{held}
use Rattle.snbt_form.specs.Numbers.{byte, short, int, long}
use Rattle.snbt_tokens.specs.Answers.{token_is, data_is}
use Rattle.snbt_tokens.proofs.Rests.{a-sign}
use Rattle.snbt_placing.specs.Done.{Puts}
use Rattle.snbt_scalars.proofs.Placing.{spanned-as, scalar-string, whole-puts, real-puts, scalar-sign}
use Rattle.snbt_scalars.proofs.scalar.Statement.{statement}
use Rattle.snbt_scalars.proofs.scalar.Tie as tie

-- A string.
returns : tie.Need-returns-in-Str
returns c =
    let a = c.args in
    let r = c.put_string in
    subst (λ res. Puts res a.out.now a.at r.result r.new.out)
    (scalar-string a.text.now (length a.out.now) a.want (data_is a.«data») a.next a.at (ap token_is c.in-Str.is)) r.ensures

-- Whole numbers of 1, 2, 4 and 8 bytes.
returns-2 : tie.Need-returns-in-Byte
returns-2 c =
    let a = c.args in
    let r = c.put_whole in
    let v = c.in-Byte in
    whole-puts a.text.now a.out.now a.want (data_is a.«data») a.next a.at byte tree.byte 1 1 v.v _ r.result r.new.out
    (ap token_is v.is) (held v.v v.known_told-in-Byte-1-own.given.0.1) (λ p. refl) (unfold kind_of in refl) (unfold payload_in in refl) r.ensures

returns-3 : tie.Need-returns-in-Short
returns-3 c =
    let a = c.args in
    let r = c.put_whole-in-Short in
    let v = c.in-Short in
    whole-puts a.text.now a.out.now a.want (data_is a.«data») a.next a.at short tree.short 2 2 v.v _ r.result r.new.out
    (ap token_is v.is) (held v.v v.known_told-in-Short-1-own.given.0.1) (λ p. refl) (unfold kind_of in refl) (unfold payload_in in refl) r.ensures

returns-4 : tie.Need-returns-in-Int
returns-4 c =
    let a = c.args in
    let r = c.put_whole-in-Int in
    let v = c.in-Int in
    whole-puts a.text.now a.out.now a.want (data_is a.«data») a.next a.at int tree.int 4 3 v.v _ r.result r.new.out
    (ap token_is v.is) (held v.v v.known_told-in-Int-1-own.given.0.1) (λ p. refl) (unfold kind_of in refl) (unfold payload_in in refl) r.ensures

returns-5 : tie.Need-returns-in-Long
returns-5 c =
    let a = c.args in
    let r = c.put_whole-in-Long in
    let v = c.in-Long in
    whole-puts a.text.now a.out.now a.want (data_is a.«data») a.next a.at long tree.long 8 4 v.v _ r.result r.new.out
    (ap token_is v.is) (held v.v v.known_told-in-Long-1-own.given.0.1) (λ p. refl) (unfold kind_of in refl) (unfold payload_in in refl) r.ensures

-- A float, rounded to a single, and a double.
returns-6 : tie.Need-returns-in-Float
returns-6 c =
    let a = c.args in
    let r = c.put_bits in
    let f = c.f32_bits in
    real-puts a.text.now a.out.now a.want (data_is a.«data») a.next a.at (tree.float f.result) 4 5 f.result r.result r.new.out
    (ap token_is c.in-Float.is) (λ p. ap (λ b. got (tree.float b)) (sym f.ensures)) (unfold kind_of in refl) (unfold payload_in in refl) r.ensures

returns-7 : tie.Need-returns-in-Double
returns-7 c =
    let a = c.args in
    let r = c.put_bits-in-Double in
    let v = c.in-Double in
    let b = to_bits binary64 v.x in
    real-puts a.text.now a.out.now a.want (data_is a.«data») a.next a.at (tree.double b) 8 6 b r.result r.new.out
    (ap token_is v.is) (λ p. refl) (unfold kind_of in refl) (unfold payload_in in refl) r.ensures

-- A sign.
returns-8 : tie.Need-returns-in_default
returns-8 c =
    let a = c.args in
    (scalar-sign a.text.now (length a.out.now) a.want (data_is a.«data») a.next a.at (a-sign a.«data».token c.in_default.in_default-own.keys8), refl)

pub scalar_spec : {M : Type 1} → statement M
scalar_spec =
    tie.close
    (tie.spec
    (λ c. search rules)
    (λ c κs. spanned-as c.requires (ap token_is c.in-Str.is))
    (λ c. search rules)
    (λ c κs. search rules)
    (λ c. search rules)
    (λ c κs. search rules)
    (λ c. search rules)
    (λ c κs. search rules)
    (λ c. search rules)
    (λ c κs. search rules)
    (λ c. search rules)
    (λ c κs. spanned-as c.requires (ap token_is c.in-Float.is))
    (λ c. search rules)
    (λ c κs. search rules)
    (λ c. search rules)
    (λ c. spanned-as c.requires (ap token_is c.in-Double.is))
    (λ c κs. search rules)
    (λ c. search rules)
    returns
    (λ c. search rules)
    returns-2
    (λ c. search rules)
    returns-3
    (λ c. search rules)
    returns-4
    (λ c. search rules)
    returns-5
    (λ c. search rules)
    returns-6
    (λ c. search rules)
    returns-7
    returns-8)
