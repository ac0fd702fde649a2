-- `signature_fault` meets its contract: each test shows the refusal that the definition has at its place.
use mathlib.Core.Path.{sym, ◌∙◌}
use native.Mathlib.Omega.{arith}
use borrow.Author.Rules.{rules}
use borrow.Author.Tests.{tests}
use Rattle.std.proofs.lemmas.Iterator.{YieldsList-from_slice}
use Rattle.std.proofs.lemmas.Iterator.Search.{all_from_yields_List}
use Rattle.release.proofs.Refusing.{refuses, accepts}
use Rattle.signature.specs.Bytes.{is_bit}
use Rattle.signature.proofs.Faults.{all_same, length_wrong, length_right, fault_17, fault_18, no_fault}
use Rattle.signature.proofs.signature_fault.Goals as goal

pub returns-then-ne : goal.returns-then-ne
returns-then-ne c = refuses 0 17 _ _ (omega arith) (fault_17 _ _ _ (length_wrong _ _ c.args.signature.now _ c.checked_sub.ensures c.ne.ensures c.if-ne.true))

pub returns-then-not-all : goal.returns-then-not-all
returns-then-not-all c =
    let s = c.args.signature.now in
    let bits = all_from_yields_List is_bit _ _ c.all.result c.all.ensures.ran (YieldsList-from_slice s cc) (λ x b q k. search (rules, tests)) in
    refuses 0 18 _ _ (omega arith)
    (fault_18 _ _ s (length_right _ _ s _ c.checked_sub.ensures c.ne.ensures c.if-ne.false) (sym (all_same is_bit s) ∙ (sym bits ∙ c.if-not-all.true)))

pub returns : goal.returns
returns c =
    let s = c.args.signature.now in
    let bits = all_from_yields_List is_bit _ _ c.all.result c.all.ensures.ran (YieldsList-from_slice s cc) (λ x b q k. search (rules, tests)) in
    accepts 0 _ _
    (no_fault _ _ s (length_right _ _ s _ c.checked_sub.ensures c.ne.ensures c.if-ne.false) (sym (all_same is_bit s) ∙ (sym bits ∙ c.if-not-all.false)))
