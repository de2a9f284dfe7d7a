use Rattle.std.proofs.Common.{◌≡◌, Option, None, ap, sym, subst, ◌∙◌, rules}
use Rattle.mx_stores.specs.Sighted.{latest}
use Rattle.mx_stores.specs.SightedTables.{IsLatestKept}
use Rattle.mx_stores.specs.declared.sightings.Latest.{Latest}
use Rattle.mx_stores.proofs.Noting.{start_again, start_cursor, start_other}
use Rattle.mx_stores.proofs.SightedLaws.{none_some, some_same}
use Rattle.mx_stores.proofs.sightings.Sightings.start.Goals as goal
use Rattle.mx_stores.proofs.sightings.Sightings.start.Goals.{in-Some+else-latest-storer, in_default}

pub returns-then-latest-storer : goal.returns-then-latest-storer
returns-then-latest-storer c = λ done source tables groups numbers p here cell table own are fits at n t g k.
    start_again done source tables p here cell c.in-Some.latest c.args.storer table
    (subst (λ (o : Option Latest). IsLatestKept tables p cell (latest done source p cell here) o) c.in-Some.is
    (c.latest.ensures done source tables groups numbers p here cell are fits at))
    c.if-latest-storer.true n t

pub returns : goal.returns
returns c = λ done source tables groups numbers p here cell table own are fits at n t g k.
    let kept = c.latest.ensures done source tables groups numbers p here cell are fits at in
    start_cursor done source tables groups numbers p here cell c.args.self.now c.args.storer c.args.group c.cursor.result table own
    are fits n t g k c.cursor.ensures
    (start_other done source tables p here cell c.latest.result c.args.storer kept (λ l e same. elim c.match-latest.branch [
      | in-Some+else-latest-storer w ↦
          let is : w.in-Some.latest ≡ l = some_same w.in-Some.latest l (sym w.in-Some.is ∙ e) in
          let other : w.in-Some.latest.storer ≡ c.args.storer → ⊥ = search rules in
          other (ap (λ (x : Latest). x.storer) is ∙ same)
      | in_default w ↦ let none : c.latest.result ≡ None = search rules in none_some l (sym none ∙ e)
    ]))
