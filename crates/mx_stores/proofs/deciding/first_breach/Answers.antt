use Rattle.std.proofs.Common.{◌≤◌, ℕ, List, Option, IsSome, length, subst, rules, arith}
use Rattle.std.specs.Option.{MatchOption}
use Rattle.mx_reads.specs.Deeds.{Deed}
use Rattle.mx_stores.specs.Deciding.{IsWrong, choices}
use Rattle.mx_stores.specs.Parts.{deeds_of}
use Rattle.mx_stores.proofs.WholeRuns.{breach_of, chosen_next, of_each}
use Rattle.mx_stores.proofs.deciding.first_breach.Goals as goal

pub returns-in-Some : goal.returns-in-Some
returns-in-Some c =
    let told = subst (λ (ps : List (List Deed)). MatchOption c.in_ok-place.field-0 (IsSome (choices (deeds_of ps) (length ps) c.loop-p.p (length (deeds_of ps c.loop-p.p)))) (IsWrong (deeds_of ps) (length ps) c.loop-p.p))
    c.in_ok-stores.ensures c.in_ok-place.ensures in
    let wrong : IsWrong (deeds_of c.args.parts.now) (length c.args.parts.now) c.loop-p.p c.in-Some.place =
    subst (λ (o : Option ℕ). MatchOption o (IsSome (choices (deeds_of c.args.parts.now) (length c.args.parts.now) c.loop-p.p (length (deeds_of c.args.parts.now c.loop-p.p)))) (IsWrong (deeds_of c.args.parts.now) (length c.args.parts.now) c.loop-p.p))
    c.in-Some.is told in
    breach_of c.args.parts.now c.loop-p.p c.in-Some.place c.loop-p.invariant wrong

pub loop-p-preserved : goal.loop-p-preserved
loop-p-preserved c =
    let told = subst (λ (ps : List (List Deed)). MatchOption c.in_ok-place.field-0 (IsSome (choices (deeds_of ps) (length ps) c.loop-p.p (length (deeds_of ps c.loop-p.p)))) (IsWrong (deeds_of ps) (length ps) c.loop-p.p))
    c.in_ok-stores.ensures c.in_ok-place.ensures in
    chosen_next c.args.parts.now c.loop-p.p c.loop-p.invariant
    (subst (λ (o : Option ℕ). MatchOption o (IsSome (choices (deeds_of c.args.parts.now) (length c.args.parts.now) c.loop-p.p (length (deeds_of c.args.parts.now c.loop-p.p)))) (IsWrong (deeds_of c.args.parts.now) (length c.args.parts.now) c.loop-p.p))
    c.in_default.is told)

pub returns : goal.returns
returns c =
    let end : length c.args.parts.now ≤ c.loop-p.p = search rules in
    of_each c.args.parts.now (λ u l. c.loop-p.invariant u (omega arith))
