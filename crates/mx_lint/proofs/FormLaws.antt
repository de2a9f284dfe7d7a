-- Laws on the words of lines.
use Rattle.std.proofs.Common.{◌≡◌, ◌==◌, Bool, true, false, cond, ℕ, List, [], ◌∷◌, Option, None, Some, refl, sym, ap, ◌∙◌, subst}
use Rattle.std.specs.List.{find}
use Rattle.std.specs.Option.{MatchOption}
use Rattle.std.specs.Cmp.Lexicographic.{pointwise, same_text}
use Rattle.mx_lint.specs.Forms.{word_of, all_forms, form_named, IsNoWord}
use Rattle.mx_lint.specs.declared.forms.Form.{Form}
use Rattle.mx_lint.specs.declared.forms.Form.TheVariants as kind

-- the word of each kind names it, so no two have the same
pub word_again : (form : Form) → form_named (word_of form) ≡ Some form
word_again kind.Header = refl
word_again kind.History = refl
word_again kind.Process = refl
word_again kind.Logout = refl
word_again kind.End = refl
word_again kind.CreateDir = refl
word_again kind.CreateSeg = refl
word_again kind.CreateObject = refl
word_again kind.CreateLink = refl
word_again kind.Rename = refl
word_again kind.Delete = refl
word_again kind.SetAcl = refl
word_again kind.DelAcl = refl
word_again kind.SetIaclSeg = refl
word_again kind.SetIaclDir = refl
word_again kind.DelIaclSeg = refl
word_again kind.DelIaclDir = refl
word_again kind.SetBrackets = refl
word_again kind.SetDirBrackets = refl
word_again kind.SetClass = refl
word_again kind.Status = refl
word_again kind.List = refl
word_again kind.ChangeWdir = refl
word_again kind.SetRules = refl
word_again kind.Initiate = refl
word_again kind.Terminate = refl
word_again kind.Wakeup = refl
word_again kind.Block = refl
word_again kind.Set = refl
word_again kind.Epp = refl
word_again kind.Lda = refl
word_again kind.Sta = refl
word_again kind.Spri = refl
word_again kind.Fetch = refl
word_again kind.Call = refl
word_again kind.Return = refl
word_again kind.Link = refl
word_again kind.Resume = refl

-- what is found passes the test
found_on : (p : Form → Bool) (form x : Form) (forms : List Form) (test : Bool) → p x ≡ test → cond test (Some x) (find p forms) ≡ Some form
    → (find p forms ≡ Some form → p form ≡ true) → p form ≡ true
found_on p form x forms true t e on = let same : x ≡ form = cc in subst (λ (y : Form). p y ≡ true) same t
found_on p form x forms false t e on = on e

found_passes : (p : Form → Bool) (form : Form) (forms : List Form) → find p forms ≡ Some form → p form ≡ true
found_passes p form [] e = cc
found_passes p form (x ∷ forms) e = found_on p form x forms (p x) refl e (found_passes p form forms)

-- what a word names
pub named_known : (word : List ℕ) (o : Option Form) → o ≡ form_named word → MatchOption o (IsNoWord word) (λ form. word ≡ word_of form)
named_known word None e = λ form is. let one : Some form ≡ None = sym (word_again form) ∙ ap form_named (sym is) ∙ sym e in cc
named_known word (Some form) e =
    same_text word (word_of form) (sym (found_passes (λ f. pointwise ◌==◌ word (word_of f)) form all_forms (sym e)))
