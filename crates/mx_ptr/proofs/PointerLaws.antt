-- A pointer and its word give each other back.
use Rattle.std.proofs.Common.{◌≡◌, ℕ, Some, rules}
use Rattle.mx_ptr.specs.Pointers.{PointerParts, pointer_in, pointer_word, IsPackable}

pub pointer_in-pointer_word : (p : PointerParts) → IsPackable p → pointer_in (pointer_word p) ≡ Some p
pointer_in-pointer_word p h = search rules

pub pointer_word-pointer_in : (word : ℕ) (p : PointerParts) → pointer_in word ≡ Some p → pointer_word p ≡ word
pointer_word-pointer_in word p h = search rules
