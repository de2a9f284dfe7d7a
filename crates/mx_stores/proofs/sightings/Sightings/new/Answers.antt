use Rattle.std.proofs.Common.{◌≡◌, List, Option, None, length, replicate, ap, sym, ◌∙◌}
use Rattle.std.proofs.lemmas.List.{length-replicate}
use Rattle.mx_stores.specs.declared.sightings.Latest.{Latest}
use Rattle.mx_stores.specs.declared.sightings.Sightings.{Sightings}
use Rattle.mx_stores.proofs.FirstLaws.{only_none}
use Rattle.mx_stores.proofs.Noting.{all_none, none_kept}
use Rattle.mx_stores.proofs.sightings.Sightings.new.Goals as goal

pub returns : goal.returns
returns c = λ done source tables numbers p are long.
    let made : c.in_ok-latest.latest.items ≡ replicate c.args.count None =
    c.in_ok-latest.ensures.items_if_clones_equal (only_none _ (λ x f. f)) in
    let s : Sightings = record { latest = c.in_ok-latest.latest; cursors = c.in_ok-cursors.cursors } in
    none_kept done source tables c.args.groups.now numbers p s
    (ap (λ (xs : List (Option Latest)). length xs) made ∙ length-replicate c.args.count None ∙ sym long)
    (λ k kept e. all_none c.in_ok-latest.latest.items c.args.count k kept made e) c.in_ok-cursors.ensures.long
    (λ u table own is g cursors e. c.in_ok-cursors.ensures.each done source p u table own is g cursors e) are
