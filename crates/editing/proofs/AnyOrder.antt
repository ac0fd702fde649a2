-- Every accepted release of version 1 is reached from the one without axioms by adding its axioms, in any order: 15 is not met by some of
-- the axioms of a release that does not meet it, so no step is refused.
--   Partly order s     the side has axioms of the release, and those of `order` are the others
--   any_order          the theorem, of the promises of the steps
use mathlib.Core.Path.{◌≡◌, sym, ap, ap₂, subst, ◌∙◌}
use mathlib.Core.Bool.{true, false, true≢false}
use mathlib.Core.Logic.{◌⊎◌, inl, inr}
use mathlib.Core.List.{List, [], ◌∷◌}
use Prim.Native.Nat.{ℕ, ◌≤◌}
use lib.ListN.{length}
use Rattle.std.specs.Prelude.{Ok}
use Rattle.el.specs.Lists.{In, first, later}
use Rattle.el.specs.Axioms.{Axiom}
use Rattle.el.proofs.Tests.{and_both}
use Rattle.release.specs.Files.{names_of, roles_of, axioms_of, conjunct_defined}
use Rattle.release.proofs.Linked.{no_conjunct_defined}
use Rattle.rewriting.specs.Bytes.{Bytes, axiom_bytes, release_bytes}
use Rattle.meanings.specs.Comparing.{work_length}
use Rattle.meanings.proofs.Judging.{told_value}
use Rattle.splicing.specs.Axioms.{has, inserted}
use Rattle.splicing.specs.Places.{IsFile, text_fault, axiom_in, file_of}
use Rattle.splicing.proofs.Rising.{Rising, Sourced, member_source, has_member, has_not_inserted, inserted_in, inserted_itself, inserted_others, same_rising}
use Rattle.splicing.proofs.Filed.{few_names, few_roles_of, fewer_plain}
use Rattle.splicing.proofs.Splices.{rising, own_file, own_text}
use Rattle.editing.specs.declared.Session.{Session}
use Rattle.editing.specs.declared.Step.{Step}
use Rattle.editing.specs.Sessions.{text_of, holding, is_side, file_on, with_file, names_in, roles_in, axioms_on, is_session, IsValue}
use Rattle.editing.specs.Steps.{counted, Edited, Adding}
use Rattle.meanings.specs.declared.Compared.{Compared}
use Rattle.editing.specs.Refusals.{edit_refusal}
use Rattle.editing.specs.Sequences.{Once, more, Orders, Additions, finished, next, last_of, Reaches}
use Rattle.editing.proofs.Finishing.{holding_text}
use Rattle.editing.proofs.After.{file_there}
use Rattle.editing.proofs.Stepping.{edits, side_held, Added, add_accepted}
use Rattle.editing.proofs.Canonical.{canonical_on}
use Rattle.editing.proofs.Returning.{file_beside}

counts_same : (s t : Session) → names_in t ≡ names_in s → roles_in t ≡ roles_in s → ◌≡◌ {A = Compared} (counted t) (counted s)
counts_same s t e f = ap₂ (λ (n m : ℕ). record { names = n; roles = m }) e f

-- the file of a side after a step
edited_text : {side : ℕ} {al : List Axiom} {s t : Session} → Edited side al s t → text_of (file_on side t) ≡ release_bytes 1 (names_in s) (roles_in s) al
edited_text {side} {al} {s} {t} e =
    let file = release_bytes 1 (names_in s) (roles_in s) al in
    ap (λ (x : Session). text_of (file_on side x)) e.session
    ∙ (ap text_of (file_beside side t.result (with_file side (holding file (file_on side s)) s) ∙ file_there side s (holding file (file_on side s)))
    ∙ holding_text file (file_on side s))

module _ (side : ℕ) (is_side : is_side side ≡ true) (file : List ℕ) (is_file : IsFile file) (bytes : Bytes file) where
  abbrev al : List Axiom
  al = axioms_of file

  rises : Rising (names_of file) (roles_of file) 0 al
  rises = rising file is_file

  plain : conjunct_defined al ≡ false
  plain = no_conjunct_defined file is_file.accepted

  record Partly (order : List Axiom) (s : Session) : Type 0 where
    valid : is_session s ≡ true
    names : names_in s ≡ names_of file
    roles : roles_in s ≡ roles_of file
    canonical : text_of (file_on side s) ≡ release_bytes 1 (names_in s) (roles_in s) (axioms_on side s)
    within : {b : Axiom} → In (axioms_on side s) b → In al b
    others : {b : Axiom} → In al b → In (axioms_on side s) b ⊎ In order b
    among : {b : Axiom} → In order b → In al b
    free : {b : Axiom} → In order b → has b.left (axioms_on side s) ≡ false
    once : Once order

  -- one step
  module _ {a : Axiom} {order : List Axiom} {s : Session} (partly : Partly (a ∷ order) s) where
    abbrev text : List ℕ
    text = axiom_bytes 1 a

    source : Sourced (names_of file) (roles_of file) a
    source = member_source rises (partly.among first)

    text_is : (text_fault (names_of file) (roles_of file) text ≡ 0) × (axiom_in text ≡ a)
    text_is = own_text source (few_names file is_file.accepted is_file.version) (few_roles_of file is_file.accepted is_file.version)

    inserted_is : inserted (axiom_in text) (axioms_on side s) ≡ inserted a (axioms_on side s)
    inserted_is = ap (λ (b : Axiom). inserted b (axioms_on side s)) text_is.1

    inserted_within : {b : Axiom} → In (inserted a (axioms_on side s)) b → In al b
    inserted_within i = elim (inserted_in a (axioms_on side s) i) [ inl e ↦ subst (In al) (sym e) (partly.among first) | inr j ↦ partly.within j ]

    added : Added side text s
    added = record {
      valid = and_both is_side partly.valid;
      met = ap₂ (λ (n m : ℕ). text_fault n m text) partly.names partly.roles ∙ text_is.0;
      free = ap (λ (b : Axiom). has b.left (axioms_on side s)) text_is.1 ∙ partly.free first;
      plain = ap conjunct_defined inserted_is ∙ fewer_plain (λ b i. inserted_within i) plain;
    }

    module _ {w v : List ℕ} {r : Step} (enough : work_length (names_in s) ≤ length w) (step : Adding side text s w v r) where
      step_accepted : r.answer ≡ Ok (counted s)
      step_accepted = told_value edit_refusal r.answer (counted s) (step.answer ∙ add_accepted side text (length w) s added enough)

      edited : Edited side (inserted (axiom_in text) (axioms_on side s)) s r.session
      edited = step.accepted step_accepted

      axioms_are : axioms_on side r.session ≡ inserted a (axioms_on side s)
      axioms_are = edited.axioms ∙ inserted_is

      free_later : Once (a ∷ order) → {b : Axiom} → In order b → has b.left (inserted a (axioms_on side s)) ≡ false
      free_later (more h o) {b} i = has_not_inserted b.left a (axioms_on side s) apart (partly.free (later i))
        where
          apart : a.left ≡ b.left → ⊥
          apart e = true≢false (sym (has_member i) ∙ (ap (λ (x : ℕ). has x order) (sym e) ∙ h))

      rest_once : Once (a ∷ order) → Once order
      rest_once (more h o) = o

      stepped : Partly order r.session
      stepped = record {
        valid = edited.valid;
        names = edited.names ∙ partly.names;
        roles = edited.roles ∙ partly.roles;
        canonical = edited_text edited ∙ (ap₂ (λ (n m : ℕ). release_bytes 1 n m (inserted (axiom_in text) (axioms_on side s))) (sym edited.names) (sym edited.roles) ∙ ap
            (release_bytes 1 (names_in r.session) (roles_in r.session)) (sym edited.axioms));
        within = λ {b} i. inserted_within (subst (λ (bs : List Axiom). In bs b) axioms_are i);
        others = λ {b} i. left_over (partly.others i);
        among = λ i. partly.among (later i);
        free = λ {b} i. ap (has b.left) axioms_are ∙ free_later partly.once i;
        once = rest_once partly.once;
      }
        where
          here : {b : Axiom} → In (inserted a (axioms_on side s)) b → In (axioms_on side r.session) b
          here {b} i = subst (λ (bs : List Axiom). In bs b) (sym axioms_are) i

          left_over : {b : Axiom} → In (axioms_on side s) b ⊎ In (a ∷ order) b → In (axioms_on side r.session) b ⊎ In order b
          left_over (inl i) = inl (here (inserted_others a (axioms_on side s) i))
          left_over (inr first) = inl (here (inserted_itself a (axioms_on side s)))
          left_over (inr (later i)) = inr i

  -- no axiom is left
  done : {s : Session} → Partly [] s → text_of (file_on side s) ≡ file
  unfolding file_of
  done {s} partly =
      let held = side_held {side = side} {s = s} (edits side s (and_both is_side partly.valid)) in
      let same : axioms_on side s ≡ al = same_rising (rising (text_of (file_on side s)) held.holds.file) rises (λ b i. partly.within i) (λ b i. only (partly.others i)) in
      partly.canonical ∙ (ap₂ (λ (n m : ℕ). release_bytes 1 n m (axioms_on side s)) partly.names partly.roles ∙ (ap (release_bytes 1 (names_of file) (roles_of file)) same ∙ sym
      (own_file file is_file bytes)))
    where
      only : {b : Axiom} → In (axioms_on side s) b ⊎ In [] b → In (axioms_on side s) b
      only (inl i) = i
      only (inr i) = elim i [ ]

  reaches : {order : List Axiom} {s : Session} {rs : List Step} → Partly order s → Additions side order s rs → Reaches side file s rs
  unfolding last_of
  reaches partly finished = record { accepted = λ i. elim i [ ]; held = done partly; current = λ c. c }
  reaches {s = s} partly (next {r = r} {rs = rs} enough step rest) =
      let after = reaches (stepped partly enough step) rest in
      let e = edited partly enough step in
      record {
        accepted = λ i. told (λ p j. after.accepted j) i;
        held = after.held;
        current = λ c. after.current e.current;
      }
    where
      told : {q : Step} → ((p : Step) → In rs p → p.answer ≡ Ok (counted r.session)) → In (r ∷ rs) q → q.answer ≡ Ok (counted s)
      told later_ones first = step_accepted partly enough step
      told later_ones (later i) = let e = edited partly enough step in later_ones _ i ∙ ap Ok (counts_same s r.session e.names e.roles)

  pub any_order : {order : List Axiom} {s : Session} {rs : List Step} → is_session s ≡ true → IsValue s → names_in s ≡ names_of file → roles_in s ≡ roles_of file → axioms_on side s ≡ [] →
      Orders order (axioms_of file) → Additions side order s rs → Reaches side file s rs
  unfolding has
  any_order {order} {s} valid value names roles none orders steps =
      reaches start steps
    where
      start : Partly order s
      start = record {
        valid = valid;
        names = names;
        roles = roles;
        canonical = canonical_on side s (and_both is_side valid) value;
        within = λ {b} i. elim (subst (λ (bs : List Axiom). In bs b) none i) [ ];
        others = λ i. inr (orders.all i);
        among = λ i. orders.among i;
        free = λ {b} i. ap (has b.left) none;
        once = orders.once;
      }
