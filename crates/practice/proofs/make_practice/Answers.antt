-- `make_practice` meets its contract: 4, 5, or the file of what the seed draws, if the output has room for it.
use Rattle.std.proofs.Common.{arith, refl, rules, sym}
use lib.Seq.{length-take-le}
use Rattle.practice.specs.Practice.{practice_file}
use Rattle.practice.proofs.Pools.{pool_put}
use Rattle.practice.proofs.Answers.{many_names, many_roles, made}
use Rattle.practice.proofs.make_practice.Goals as goal

pub returns-then-most_names-names : goal.returns-then-most_names-names
returns-then-most_names-names c = many_names _ _ _ _ (rw c.most_names.ensures at c.if-most_names-names.true) refl

pub returns-then-roles-gt-ROLES : goal.returns-then-roles-gt-ROLES
returns-then-roles-gt-ROLES c = many_roles _ _ _ _ (omega arith) c.if-roles-gt-ROLES.true refl

pub slice_bounds-pool-end : goal.slice_bounds-pool-end
slice_bounds-pool-end c = (pool_put _ _ _ (rw c.most_names.ensures at c.if-most_names-names.false) c.put_pool-size.ensures).within

pub slice_bounds-practice-end : goal.slice_bounds-practice-end
slice_bounds-practice-end c = sym (length-take-le _ _ (pool_put _ _ _ (rw c.most_names.ensures at c.if-most_names-names.false) c.put_pool-size.ensures).within)

pub invariant_of-practice : goal.invariant_of-practice
invariant_of-practice c = record {
  few = rw c.most_names.ensures at c.if-most_names-names.false;
  pooled = (pool_put _ _ _ (rw c.most_names.ensures at c.if-most_names-names.false) c.put_pool-size.ensures).is;
}

pub returns : goal.returns
returns c =
    made _ _ _ _ (rw c.most_names.ensures at c.if-most_names-names.false) c.if-roles-gt-ROLES.false
    (c.write_whole.ensures (practice_file c.args.seed c.args.names c.args.roles) (λ o q next e. search rules))
