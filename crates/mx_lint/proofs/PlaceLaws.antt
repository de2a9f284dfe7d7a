-- Laws on the places of lines.
use Rattle.std.proofs.Common.{◌≡◌, ℕ, ◌+◌, List, Option, ap, ◌∙◌, add-one}
use Rattle.std.specs.Option.{option_map}
use Rattle.mx_name.specs.Cuts.{cut_at}
use Rattle.mx_lint.specs.Forms.{form_named, group_of}
use Rattle.mx_lint.specs.Lines.{behind_line, first_line, without_lines}
use Rattle.mx_lint.specs.Pieces.{first_piece}
use Rattle.mx_lint.specs.Places.{behind, place_behind}
use Rattle.mx_lint.specs.declared.forms.Form.{Form}
use Rattle.mx_lint.specs.declared.places.Place.{Place}

-- one line more was passed
pub rest_more : (n : ℕ) (text rest after : List ℕ) → rest ≡ without_lines n text → after ≡ behind_line (cut_at 10 rest)
    → after ≡ without_lines (n + 1) text
rest_more n text rest after e f = rw add-one (f ∙ ap (λ (t : List ℕ). behind_line (cut_at 10 t)) e)

pub place_more : (n : ℕ) (text rest line : List ℕ) (place place' : Place) (form : Option Form) → rest ≡ without_lines n text
    → place ≡ place_behind n text → line ≡ first_line rest → form ≡ form_named (first_piece line)
    → place' ≡ behind place (option_map group_of form) → place' ≡ place_behind (n + 1) text
place_more n text rest line place place' form r p l f e =
    let here : line ≡ first_line (without_lines n text) = l ∙ ap first_line r in
    let named : form ≡ form_named (first_piece (first_line (without_lines n text))) =
    f ∙ ap (λ (t : List ℕ). form_named (first_piece t)) here in
    rw add-one (
    e ∙ ap (λ (q : Place). behind q (option_map group_of form)) p
    ∙ ap (λ (o : Option Form). behind (place_behind n text) (option_map group_of o)) named)
