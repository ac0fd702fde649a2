-- `rewrite` meets its contract: no version to write, version 3 to read, the release's own refusal, 40, 41, or the file written.
use mathlib.Core.Path.{sym, ◌∙◌}
use Rattle.rewriting.specs.declared.refusals.RewriteRefusal.TheVariants.{File}
use Rattle.release.proofs.Refusing.{passed}
use Rattle.rewriting.proofs.Answers.{as_version, not_written, pairs_refused, source_as, rewritable, release_refused, accepted, refuses_40, refuses_41, writes}
use Rattle.rewriting.proofs.Stands.{has_version}
use Rattle.rewriting.proofs.rewrite.Goals as goal

pub returns-then-has_pairs : goal.returns-then-has_pairs
returns-then-has_pairs c = not_written _ _ c.args.version (sym c.has_pairs.ensures ∙ c.if-has_pairs.true)

pub returns-then-says_pairs : goal.returns-then-says_pairs
returns-then-says_pairs c = as_version _ c.args.version (sym c.has_pairs.ensures ∙ c.if-has_pairs.false) (pairs_refused _ _ _ (sym c.says_pairs.ensures ∙ c.if-says_pairs.true))

pub returns-in_err-counts : goal.returns-in_err-counts
returns-in_err-counts c = as_version _ c.args.version (sym c.has_pairs.ensures ∙ c.if-has_pairs.false)
    (rw (passed _ (File c.in_err-counts.field-0.0) c.from_residual.ensures.1) (release_refused _ _ _ _ (sym c.says_pairs.ensures ∙ c.if-says_pairs.false) c.in_err-counts.ensures))

pub returns-then-most_names-counts : goal.returns-then-most_names-counts
returns-then-most_names-counts c =
    let v = accepted _ _ c.in_ok-counts.ensures in
    as_version _ c.args.version (sym c.has_pairs.ensures ∙ c.if-has_pairs.false)
    (refuses_40 _ _ _ (source_as _ (sym c.says_pairs.ensures ∙ c.if-says_pairs.false) ∙ v.0) (rw (c.most_names.ensures, v.1) at c.if-most_names-counts.true))

pub of-requires : goal.of-requires
of-requires c = has_version _ (accepted _ _ c.in_ok-counts.ensures).0

pub invariant_of-rewriting : goal.invariant_of-rewriting
invariant_of-rewriting c =
    let v = accepted _ _ c.in_ok-counts.ensures in
    let r = rewritable _ (sym c.says_pairs.ensures ∙ c.if-says_pairs.false) v.0 in
    record { accepted = r; version = c.of.ensures.width; plain = c.of.ensures.pairs ∙ r.plain; counts = v.1 }

pub returns-then-output-length : goal.returns-then-output-length
returns-then-output-length c =
    let v = accepted _ _ c.in_ok-counts.ensures in
    as_version _ c.args.version (sym c.has_pairs.ensures ∙ c.if-has_pairs.false)
    (refuses_41 _ _ _ (source_as _ (sym c.says_pairs.ensures ∙ c.if-says_pairs.false) ∙ v.0) (rw (c.most_names.ensures, v.1) at c.if-most_names-counts.false) _ c.length-length.ensures
    c.if-output-length.true)

pub returns : goal.returns
returns c =
    let v = accepted _ _ c.in_ok-counts.ensures in
    as_version _ c.args.version (sym c.has_pairs.ensures ∙ c.if-has_pairs.false)
    (writes _ _ _ (source_as _ (sym c.says_pairs.ensures ∙ c.if-says_pairs.false) ∙ v.0) (rw (c.most_names.ensures, v.1) at c.if-most_names-counts.false) _ c.length-length.ensures
    c.if-output-length.false c.put_release.ensures)
