-- The supervisor as a run begins, and a word that was struck.
use Rattle.std.proofs.Common.{◌≡◌, ℕ, List, [], ◌∷◌, ◌+◌, ◌++◌, ap, subst, Option, Some, None, true}
use Rattle.std.specs.Prelude.{MatchOption, option_to_list}
use Rattle.mx_core.specs.declared.words.Stage.TheVariants.{Outside}
use Rattle.mx_desc.specs.Openings.{AreFreshPasses}
use Rattle.mx_core.specs.declared.words.DescriptorWord.{DescriptorWord}
use Rattle.mx_core.specs.declared.words.DescriptorWord.TheVariants.{Fault}
use Rattle.mx_desc.specs.Slots.{is_fault}
use Rattle.mx_desc.specs.Passes.{PassValue}
use Rattle.mx_rule.specs.Shown.{office_of}
use Rattle.mx_rule.specs.declared.views.PassView.{PassView}
use Rattle.mx_rule.specs.declared.views.SuperView.{SuperView}
use Rattle.rule_tests.specs.Changing.{IsAtRest}

pub dealt_all : {E : Type 0} (v : SuperView E) (next : ℕ) → IsAtRest (office_of v)
    → IsAtRest (office_of (record v { next = next }))
dealt_all v next r = record { low = r.low; rest = r.rest; ready = r.ready }

-- a word that an entry struck is a fault
pub struck_fault : (word : DescriptorWord) (number : ℕ) → word ≡ Fault number → is_fault word ≡ true
struck_fault word number e = ap is_fault e
