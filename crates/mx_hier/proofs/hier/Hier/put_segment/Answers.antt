use Rattle.std.proofs.Common.{◌≡◌, Some, sym, ap, ◌∙◌, subst}
use Rattle.std.specs.Option.{option_copied}
use Rattle.mx_pages.specs.Runs.{IsFreeRun, run_given, after_run, pages_for}
use Rattle.mx_hier.specs.Branches.{Hierarchy}
use Rattle.mx_hier.proofs.MakingLaws.{good_length}
use Rattle.mx_hier.proofs.SoundLaws.{sound_made}
use Rattle.mx_hier.proofs.hier.Hier.put_segment.Goals as goal

pub invariant_of-self-2 : goal.invariant_of-self-2
invariant_of-self-2 c =
    let object = option_copied c.args.object in
    let segment = c.args.segment in
    let pages : c.pages_for-pages.result ≡ pages_for segment.words = c.pages_for-pages.ensures ∙ ap pages_for c.from.ensures in
    let first : run_given c.self.inside.pages (pages_for segment.words) ≡ Some segment.page =
    subst (λ (h : Hierarchy). run_given h.pages (pages_for segment.words) ≡ Some segment.page) (sym c.self.view_is) c.requires.page in
    let length = good_length segment.words object c.requires.fit in
    sound_made c.self.inside.pages c.allot-first.new.self c.self.inside.objects.entries c.add_with_map.new.objects.entries object c.self.inside.tables c.add_with_map.new.tables _ segment
    c.in_ok-add_with_map.ensures.ok (ap Some c.in_ok-boxed.ensures) length.some length.few c.in_ok-add_with_map.ensures.left
    (subst (λ (h : Hierarchy). IsFreeRun h.pages (pages_for segment.words) segment.page) (sym c.self.view_is) c.requires.run) c.requires.within
    (c.allot-first.ensures.after ∙ ap (λ n. after_run c.self.inside.pages n (run_given c.self.inside.pages n)) pages
    ∙ ap (after_run c.self.inside.pages (pages_for segment.words)) first)
    c.in_ok-add_with_map.ensures.map
    length.gates length.defined c.self.invariant
