use Rattle.std.proofs.Common.{arith, ◌∙◌, ap, sym, ◌≡◌, ◌+◌, ◌-◌, take, drop}
use Rattle.mx_io.proofs.BytesLaws.{left_behind}
use Rattle.mx_io.proofs.memory_source.MemorySourceSource.read.Goals as goal

pub returns-clause-bytes : goal.returns-clause-bytes
returns-clause-bytes c =
    let at = c.self.inside.at in
    let count = c.min-count.result in
    let counted : at + count - at ≡ count = omega arith in
    let copied = c.copy_from_slice.ensures.after
    ∙ ap (λ k. take k (drop at c.deref.result.now)) counted
    ∙ ap (λ bytes. take count (drop at bytes)) c.deref.ensures.value in
    left_behind count at _ c.self.inside.bytes.items _ _ (ap (λ source. source.left) (sym c.self.view_is)) copied (omega arith)
