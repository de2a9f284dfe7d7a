-- Helpers that an `impl` cites: a text in an array, with zeros behind it.
use Rattle.std.proofs.Common.{ℕ, ◌≡◌, ◌≤◌, ◌-◌, List, ◌++◌, take, drop, replicate, length, refl, ◌∙◌, arith, length-append}
use Rattle.std.proofs.Math.Seq.{drop-append_seam}
use Rattle.std.proofs.lemmas.List.{take-append-drop, length-take-le, length-drop, length-replicate, drop-replicate}
use Rattle.mx_name.specs.declared.texts.Text.TheInside.{Inside}

-- an array of so many bytes, of which so many are a text
pub record IsText (most size : ℕ) (bytes : List ℕ) : Type 0 where
  pub within : size ≤ most
  pub full : length bytes ≡ most
  pub zeros : drop size bytes ≡ replicate (most - size) 0

-- the text gives the array back
pub given_back : (most : ℕ) (a : Inside most) → IsText most a.size a.bytes
    → record {
      bytes = take a.size a.bytes ++ replicate (most - length (take a.size a.bytes)) 0;
      size = length (take a.size a.bytes);
    } ≡ a
given_back most a text =
    let size : length (take a.size a.bytes) ≡ a.size =
    length-take-le a.size a.bytes (omega (arith, text.within, text.full)) in
    rw (size, ← text.zeros, take-append-drop a.size a.bytes) refl

-- a text written over zeros
pub written : (most : ℕ) (text : List ℕ) → length text ≤ most
    → IsText most (length text) (text ++ drop (length text) (replicate most 0))
written most text within = record {
  within = within;
  full =
      let zeros : List ℕ = replicate most 0 in
      let all : length zeros ≡ most = length-replicate most 0 in
      omega (arith, length-append text (drop (length text) zeros), length-drop (length text) zeros, all, within);
  zeros = drop-append_seam text (drop (length text) (replicate most 0)) ∙ drop-replicate (length text) most 0;
}
