use Rattle.std.proofs.Common.{◌≡◌, ℕ, Bool, true, false, Option, None, Some, cond, rules, refl, ap, sym, ◌∙◌}
use Rattle.std.specs.Bool.{then_some}
use Rattle.std.specs.Map.{lookup}
use Rattle.mx_name.specs.Names.{same_name}
use Rattle.mx_kst.specs.Names.{RingNames}
use Rattle.mx_kst.specs.Stored.{standing}
use Rattle.mx_kst.proofs.StoredLaws.{found_standing}
use Rattle.mx_kst.proofs.names.Names.get.Goals as goal

as_test : (b : Bool) (n : ℕ) → then_some b n ≡ cond b (Some n) None
as_test true n = refl
as_test false n = refl

pub returns-in_err-segno : goal.returns-in_err-segno
returns-in_err-segno c =
    let none : c.from_residual.result ≡ None = search rules in
    let found : ◌≡◌ {A = Option ℕ} None (lookup (same_name c.args.name.now) c.self.inside.numbers.entries) = sym c.in_err-segno.was ∙ c.copied.ensures ∙ c.get.ensures.value in
    none
    ∙ found_standing c.args.lots.now c.args.name.now c.self.inside.numbers.entries None c.self.invariant found
    ∙ ap (λ (names : RingNames). lookup (same_name c.args.name.now) (standing c.args.lots.now names)) c.self.view_is

pub returns : goal.returns
returns c =
    let found : Some c.in_ok-segno.segno ≡ lookup (same_name c.args.name.now) c.self.inside.numbers.entries = sym c.in_ok-segno.was ∙ c.copied.ensures ∙ c.get.ensures.value in
    c.then_some.ensures
    ∙ as_test c.is_branch.result c.in_ok-segno.segno
    ∙ ap (λ b. cond b (Some c.in_ok-segno.segno) None) c.is_branch.ensures
    ∙ found_standing c.args.lots.now c.args.name.now c.self.inside.numbers.entries (Some c.in_ok-segno.segno) c.self.invariant found
    ∙ ap (λ (names : RingNames). lookup (same_name c.args.name.now) (standing c.args.lots.now names)) c.self.view_is
