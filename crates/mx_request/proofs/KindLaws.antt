-- Laws of the kinds of lines: each has one word, and no other word has a kind.
use Rattle.std.proofs.Common.{◌≡◌, ℕ, ◌==◌, Bool, true, false, cond, List, [], ◌∷◌, ◌++◌, Some, None, refl, sym}
use Rattle.std.specs.List.{find, list_all}
use Rattle.std.specs.Cmp.Lexicographic.{pointwise, same_text}
use Rattle.mx_name.specs.Names.{is_name_byte}
use Rattle.mx_request.specs.declared.reading.kinds.Kind.{Kind}
use Rattle.mx_request.specs.declared.reading.kinds.Kind.TheVariants.{CreateDir, CreateSeg, CreateObject, CreateLink, Rename, Delete, SetAcl, DelAcl, SetIaclSeg, SetIaclDir, DelIaclSeg, DelIaclDir, SetBrackets, SetDirBrackets, SetClass, Status, List as ListNames, ChangeWdir, SetRules, Initiate, Terminate, Wakeup, Link}
use Rattle.mx_request.specs.Kinds.{kind_of, kind_word, all_kinds}
use Rattle.mx_request.specs.Reading.{bare_at}
use Rattle.mx_request.proofs.StepLaws.{some_is}

found_passes : (p : Kind → Bool) (all : List Kind) (kind : Kind) → find p all ≡ Some kind → p kind ≡ true
found_passes p [] kind e = cc
found_passes p (x ∷ xs) kind e = by_test (p x) refl (found_passes p xs kind) e
  where
    by_test : (b : Bool) → p x ≡ b → (find p xs ≡ Some kind → p kind ≡ true) → cond b (Some x) (find p xs) ≡ Some kind → p kind ≡ true
    by_test true t ih e = let same : x ≡ kind = some_is _ _ e in rw (← same) t
    by_test false t ih e = ih e

pub kind_takes : (word : List ℕ) (kind : Kind) → kind_of word ≡ Some kind → kind_word kind ≡ word
kind_takes word kind e =
    sym (same_text word (kind_word kind) (sym (found_passes (λ k. pointwise ◌==◌ word (kind_word k)) all_kinds kind e)))

pub kind_again : (kind : Kind) → kind_of (kind_word kind) ≡ Some kind
kind_again CreateDir = refl
kind_again CreateSeg = refl
kind_again CreateObject = refl
kind_again CreateLink = refl
kind_again Rename = refl
kind_again Delete = refl
kind_again SetAcl = refl
kind_again DelAcl = refl
kind_again SetIaclSeg = refl
kind_again SetIaclDir = refl
kind_again DelIaclSeg = refl
kind_again DelIaclDir = refl
kind_again SetBrackets = refl
kind_again SetDirBrackets = refl
kind_again SetClass = refl
kind_again Status = refl
kind_again ListNames = refl
kind_again ChangeWdir = refl
kind_again SetRules = refl
kind_again Initiate = refl
kind_again Terminate = refl
kind_again Wakeup = refl
kind_again Link = refl

pub kind_bytes : (kind : Kind) → list_all is_name_byte (kind_word kind) ≡ true
kind_bytes CreateDir = refl
kind_bytes CreateSeg = refl
kind_bytes CreateObject = refl
kind_bytes CreateLink = refl
kind_bytes Rename = refl
kind_bytes Delete = refl
kind_bytes SetAcl = refl
kind_bytes DelAcl = refl
kind_bytes SetIaclSeg = refl
kind_bytes SetIaclDir = refl
kind_bytes DelIaclSeg = refl
kind_bytes DelIaclDir = refl
kind_bytes SetBrackets = refl
kind_bytes SetDirBrackets = refl
kind_bytes SetClass = refl
kind_bytes Status = refl
kind_bytes ListNames = refl
kind_bytes ChangeWdir = refl
kind_bytes SetRules = refl
kind_bytes Initiate = refl
kind_bytes Terminate = refl
kind_bytes Wakeup = refl
kind_bytes Link = refl

-- a word with fields is no line of one word
pub kind_not_bare : (kind : Kind) (text : List ℕ) → bare_at (kind_word kind ++ 32 ∷ text) ≡ None
kind_not_bare CreateDir text = refl
kind_not_bare CreateSeg text = refl
kind_not_bare CreateObject text = refl
kind_not_bare CreateLink text = refl
kind_not_bare Rename text = refl
kind_not_bare Delete text = refl
kind_not_bare SetAcl text = refl
kind_not_bare DelAcl text = refl
kind_not_bare SetIaclSeg text = refl
kind_not_bare SetIaclDir text = refl
kind_not_bare DelIaclSeg text = refl
kind_not_bare DelIaclDir text = refl
kind_not_bare SetBrackets text = refl
kind_not_bare SetDirBrackets text = refl
kind_not_bare SetClass text = refl
kind_not_bare Status text = refl
kind_not_bare ListNames text = refl
kind_not_bare ChangeWdir text = refl
kind_not_bare SetRules text = refl
kind_not_bare Initiate text = refl
kind_not_bare Terminate text = refl
kind_not_bare Wakeup text = refl
kind_not_bare Link text = refl
