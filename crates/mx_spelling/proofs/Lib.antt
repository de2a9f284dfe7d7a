mod WalkBounds
mod NextBounds
mod LineBounds
mod SessionBounds
mod StateBounds
mod HierarchyBounds
mod ReplyBounds
mod KnownBounds
mod RequestBounds
mod DescriptorBounds
mod CallBounds
mod RunBounds
pub mod JournalBounds
pub mod SaidReplies
