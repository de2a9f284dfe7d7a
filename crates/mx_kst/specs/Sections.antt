-- Linkage sections: a page of an object's own, with a word for each of its links.
use Rattle.std.specs.Prelude.{ℕ, ◌≤◌, ◌&&◌, nat_le, Option, Some, None, if◌then◌else◌}
use Rattle.mx_sdw.specs.Rings.{Bracketing}

pub record PlainSection : Type 0 where
  pub page : ℕ
  pub brackets : Bracketing
  pub words : ℕ

-- it has 1 to 64 words, so that it lies within a page, and its page is one of 1,024
pub record IsWithinPage (page words : ℕ) : Type 0 where
  pub some : 1 ≤ words
  pub most : words ≤ 64
  pub last_page : page ≤ 1023

-- the section of these parts, where they are so
abbrev pub section_of : PlainSection → Option PlainSection
section_of section =
    if nat_le 1 section.words && nat_le section.words 64 && nat_le section.page 1023 then Some section else None
