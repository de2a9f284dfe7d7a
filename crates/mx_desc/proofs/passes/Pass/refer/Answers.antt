use Rattle.std.proofs.Common.{◌≡◌, ℕ, ◌++◌, ◌∷◌, [], refl, sym, ap, ◌∙◌, subst, rules}
use Rattle.std.specs.Prelude.{List, option_map}
use Rattle.mx_core.specs.declared.elements.Element.{Element}
use Rattle.mx_core.specs.declared.elements.Kept.{Kept}
use Rattle.mx_core.specs.declared.elements.Kept.TheVariants.{Judged}
use Rattle.mx_core.specs.declared.words.Asked.{Asked}
use Rattle.mx_rule.specs.Codes.{word_by}
use Rattle.mx_rule.specs.Loading.{loaded_view}
use Rattle.mx_rule.specs.Seats.{pass_of}
use Rattle.mx_rule.specs.declared.views.PassView.{PassView}
use Rattle.mx_rule.proofs.Holdings.{loaded_unmoved}
use Rattle.mx_desc.specs.Referring.{HasReferred, HasMissed}
use Rattle.mx_desc.specs.declared.referring.Referred.TheVariants.{Seen, Missing}
use Rattle.mx_desc.proofs.Keeping.{opened_before, still_seen, still_missed}
use Rattle.mx_desc.proofs.Refers.{waits_there, after_there, seen_there, missed_there}
use Rattle.mx_desc.proofs.passes.Pass.refer.Goals as goal

pub complete-outcome-requires-clause-waits : goal.complete-outcome-requires-clause-waits
complete-outcome-requires-clause-waits g c =
    let y = c.self.inside.seat.layout in
    let v = pass_of c.self.inside.seat.seat.me.0 in
    let word = word_by c.load_desc-found.result in
    let asked : c.asked_of-asked.result ≡ record { op = c.args.op; ring = c.args.ring; word = c.args.word }
    = search rules in
    let is = c.load_desc-found.ensures.view
    ∙ ap (λ (a : Asked). loaded_view y.numbers c.args.segno a word v) (sym asked) in
    let at = sym (loaded_unmoved y.numbers c.args.segno c.asked_of-asked.result word v).floor
    ∙ ap (λ (z : PassView g.row.E.Denot). z.floor) (sym is) ∙ c.load_desc-found.new.self.floor_is in
    waits_there y.numbers c.args.segno _ c.asked_of-asked.result v at word _ c.in-Ok.on is
    (c.standing.ensures.on c.in-Ok.on (search rules))

pub invariant_of-self : goal.invariant_of-self
invariant_of-self g c =
    let y = c.self.inside.seat.layout in
    let v = pass_of c.self.inside.seat.seat.me.0 in
    let word = word_by c.load_desc-found.result in
    let asked : c.asked_of-asked.result ≡ record { op = c.args.op; ring = c.args.ring; word = c.args.word }
    = search rules in
    let is = c.load_desc-found.ensures.view
    ∙ ap (λ (a : Asked). loaded_view y.numbers c.args.segno a word v) (sym asked) in
    let at = sym (loaded_unmoved y.numbers c.args.segno c.asked_of-asked.result word v).floor
    ∙ ap (λ (z : PassView g.row.E.Denot). z.floor) (sym is) ∙ c.load_desc-found.new.self.floor_is in
    let seen = after_there y.numbers c.args.segno _ c.asked_of-asked.result v at word _
    (pass_of c.complete-outcome.new.seat.seat.me.0) c.in-Ok.on c.args.value c.complete-outcome.result is
    (c.standing.ensures.on c.in-Ok.on (search rules)) c.complete-outcome.ensures.done in
    let kept = c.push.ensures.kept ∙ (λ i. option_map (λ (b : List Kept). b ++ (c.kept.ensures
    ∙ (λ j. Judged (c.element-element.ensures j) c.asked_of-asked.result.op c.in-Ok.on.desc)) i ∷ []) c.self.inside.trace.kept) in
    still_seen _ _ _ _ _ _ _ _ v _ _ _ _ _ c.self.invariant
    (c.complete-outcome.ensures.place ∙ c.load_desc-found.ensures.place)
    (c.complete-outcome.ensures.layout ∙ c.load_desc-found.ensures.layout) _ c.in-Ok.on c.asked_of-asked.result
    c.args.value _ seen kept c.put.ensures

same_seen : (e f : Element) → Seen e ≡ Seen f → e ≡ f
same_seen e f h = cc

pub returns-in-Ok-clause-seen : goal.returns-in-Ok-clause-seen
returns-in-Ok-clause-seen g c e result =
    let y = c.self.inside.seat.layout in
    let v = pass_of c.self.inside.seat.seat.me.0 in
    let word = word_by c.load_desc-found.result in
    let asked : c.asked_of-asked.result ≡ record { op = c.args.op; ring = c.args.ring; word = c.args.word }
    = search rules in
    let is = c.load_desc-found.ensures.view
    ∙ ap (λ (a : Asked). loaded_view y.numbers c.args.segno a word v) (sym asked) in
    let at = sym (loaded_unmoved y.numbers c.args.segno c.asked_of-asked.result word v).floor
    ∙ ap (λ (z : PassView g.row.E.Denot). z.floor) (sym is) ∙ c.load_desc-found.new.self.floor_is in
    let view : v ≡ c.args.self.now.view = search rules in
    let numbers : y.numbers ≡ g.B.Naming.layout.numbers = λ i. (c.self.invariant.laid i).numbers in
    let element = sym c.element-element.ensures ∙ same_seen c.element-element.result e (sym c.seen.ensures ∙ result) in
    subst (λ (z : PassView g.row.E.Denot × Asked × Element × ℕ). HasReferred z.3 c.args.segno z.1 c.args.value z.0 z.2
    (pass_of c.complete-outcome.new.seat.seat.me.0)) (λ i. (view i, asked i, element i, numbers i))
    (seen_there y.numbers c.args.segno _ c.asked_of-asked.result v at word _
    (pass_of c.complete-outcome.new.seat.seat.me.0) c.in-Ok.on c.args.value c.complete-outcome.result
    c.load_desc-found.ensures.says is (c.standing.ensures.on c.in-Ok.on (search rules))
    c.complete-outcome.ensures.done)

same_miss : (x y : ℕ) → Missing x ≡ Missing y → x ≡ y
same_miss x y h = cc

pub returns-in-Err-clause-missing : goal.returns-in-Err-clause-missing
returns-in-Err-clause-missing g c by result =
    let y = c.self.inside.seat.layout in
    let v = pass_of c.self.inside.seat.seat.me.0 in
    let word = word_by c.load_desc-found.result in
    let asked : c.asked_of-asked.result ≡ record { op = c.args.op; ring = c.args.ring; word = c.args.word }
    = search rules in
    let is = c.load_desc-found.ensures.view
    ∙ ap (λ (a : Asked). loaded_view y.numbers c.args.segno a word v) (sym asked) in
    let at = sym (loaded_unmoved y.numbers c.args.segno c.asked_of-asked.result word v).floor
    ∙ ap (λ (z : PassView g.row.E.Denot). z.floor) (sym is) ∙ c.load_desc-found.new.self.floor_is in
    let view : v ≡ c.args.self.now.view = search rules in
    subst (λ (z : PassView g.row.E.Denot × ℕ). HasMissed c.args.segno z.1 z.0
    (pass_of c.load_desc-found.new.self.seat.me.0))
    (λ i. (view i, same_miss c.in-Err.by by result i))
    (missed_there y.numbers c.args.segno _ c.asked_of-asked.result v at word _ c.in-Err.by
    (opened_before _ _ _ _ _ _ v _ _ c.self.invariant) is c.load_desc-found.ensures.news
    (λ far. ap word_by (c.load_desc-found.ensures.past far)) (c.standing.ensures.missed c.in-Err.by (search rules)))

pub invariant_of-self-in-Err : goal.invariant_of-self-in-Err
invariant_of-self-in-Err g c =
    let y = c.self.inside.seat.layout in
    let v = pass_of c.self.inside.seat.seat.me.0 in
    let word = word_by c.load_desc-found.result in
    let asked : c.asked_of-asked.result ≡ record { op = c.args.op; ring = c.args.ring; word = c.args.word }
    = search rules in
    let is = c.load_desc-found.ensures.view
    ∙ ap (λ (a : Asked). loaded_view y.numbers c.args.segno a word v) (sym asked) in
    let at = sym (loaded_unmoved y.numbers c.args.segno c.asked_of-asked.result word v).floor
    ∙ ap (λ (z : PassView g.row.E.Denot). z.floor) (sym is) ∙ c.load_desc-found.new.self.floor_is in
    let missed = missed_there y.numbers c.args.segno _ c.asked_of-asked.result v at word _ c.in-Err.by
    (opened_before _ _ _ _ _ _ v _ _ c.self.invariant) is c.load_desc-found.ensures.news
    (λ far. ap word_by (c.load_desc-found.ensures.past far)) (c.standing.ensures.missed c.in-Err.by (search rules)) in
    still_missed _ _ _ _ _ _ _ _ v _ _ _ _ _ c.self.invariant c.load_desc-found.ensures.place
    c.load_desc-found.ensures.layout c.args.segno c.in-Err.by missed c.push-in-Err.ensures.kept refl

pub returns-in-Ok-clause-stage : goal.returns-in-Ok-clause-stage
returns-in-Ok-clause-stage g c =
    let y = c.self.inside.seat.layout in
    let v = pass_of c.self.inside.seat.seat.me.0 in
    let word = word_by c.load_desc-found.result in
    let asked : c.asked_of-asked.result ≡ record { op = c.args.op; ring = c.args.ring; word = c.args.word }
    = search rules in
    let is = c.load_desc-found.ensures.view
    ∙ ap (λ (a : Asked). loaded_view y.numbers c.args.segno a word v) (sym asked) in
    let at = sym (loaded_unmoved y.numbers c.args.segno c.asked_of-asked.result word v).floor
    ∙ ap (λ (z : PassView g.row.E.Denot). z.floor) (sym is) ∙ c.load_desc-found.new.self.floor_is in
    let seen = after_there y.numbers c.args.segno _ c.asked_of-asked.result v at word _
    (pass_of c.complete-outcome.new.seat.seat.me.0) c.in-Ok.on c.args.value c.complete-outcome.result is
    (c.standing.ensures.on c.in-Ok.on (search rules)) c.complete-outcome.ensures.done in
    let view : v ≡ c.args.self.now.view = search rules in
    ap (λ (z : PassView g.row.E.Denot). z.stage) seen.after
    ∙ ap (λ (z : PassView g.row.E.Denot). z.stage) view

pub returns-in-Err-clause-stage : goal.returns-in-Err-clause-stage
returns-in-Err-clause-stage g c =
    let y = c.self.inside.seat.layout in
    let v = pass_of c.self.inside.seat.seat.me.0 in
    let word = word_by c.load_desc-found.result in
    let asked : c.asked_of-asked.result ≡ record { op = c.args.op; ring = c.args.ring; word = c.args.word }
    = search rules in
    let is = c.load_desc-found.ensures.view
    ∙ ap (λ (a : Asked). loaded_view y.numbers c.args.segno a word v) (sym asked) in
    let at = sym (loaded_unmoved y.numbers c.args.segno c.asked_of-asked.result word v).floor
    ∙ ap (λ (z : PassView g.row.E.Denot). z.floor) (sym is) ∙ c.load_desc-found.new.self.floor_is in
    let missed = missed_there y.numbers c.args.segno _ c.asked_of-asked.result v at word _ c.in-Err.by
    (opened_before _ _ _ _ _ _ v _ _ c.self.invariant) is c.load_desc-found.ensures.news
    (λ far. ap word_by (c.load_desc-found.ensures.past far)) (c.standing.ensures.missed c.in-Err.by (search rules)) in
    let view : v ≡ c.args.self.now.view = search rules in
    ap (λ (z : PassView g.row.E.Denot). z.stage) missed.after
    ∙ ap (λ (z : PassView g.row.E.Denot). z.stage) view
