use Rattle.std.proofs.Common.{◌≡◌, ◌⊎◌, Result, Ok, Err, inl, inr, sym, ◌∙◌, arith}
use Rattle.mx_link.specs.declared.resolving.LinkError.{LinkError}
use Rattle.mx_link.specs.declared.resolving.LinkError.TheVariants.{Memory}
use Rattle.mx_link.specs.declared.resolving.Target.{Target}
use Rattle.mx_state.specs.Linking.{link_target}
use Rattle.mx_state.proofs.LinkingLaws.{found_stands, found_word}
use Rattle.mx_state.proofs.linking.placed.Goals as goal

meant : (given target : Result Target LinkError) (to : Target) → (given ≡ target) ⊎ (given ≡ Err Memory) → given ≡ Ok to → target ≡ Ok to
meant given target to (inl e) f = sym e ∙ f
meant given target to (inr e) f = let clash = sym f ∙ e in absurd (cc)

pub returns-in-Some-clause-below : goal.returns-in-Some-clause-below
returns-in-Some-clause-below c =
    let a = c.args in
    let leads : link_target a.search.now.hier.now a.search.now.process.now a.search.now.ring a.link.now ≡ Ok c.in-Ok.to = meant a.target _ c.in-Ok.to c.requires.right c.in-Ok.is in
    c.is_segment-stands.ensures.below
    (c.is_segment-stands.ensures.value ∙ found_stands a.search.now.hier.now a.search.now.process.now a.search.now.ring a.link.now c.in-Ok.to c.in-Some.uid leads (sym c.uid.ensures ∙ c.in-Some.is))

pub returns-in-Some-clause-word : goal.returns-in-Some-clause-word
returns-in-Some-clause-word c =
    let a = c.args in
    let leads : link_target a.search.now.hier.now a.search.now.process.now a.search.now.ring a.link.now ≡ Ok c.in-Ok.to = meant a.target _ c.in-Ok.to c.requires.right c.in-Ok.is in
    omega (
      arith,
      c.object_at-words.ensures.words c.in-Ok.to.word a.link.now.symbol
          (found_word a.search.now.hier.now a.search.now.process.now a.search.now.ring a.link.now c.in-Ok.to c.in-Some.uid leads (sym c.uid.ensures ∙ c.in-Some.is)),
    )
