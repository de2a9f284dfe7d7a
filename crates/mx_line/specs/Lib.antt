-- the line at work: the writes that a reply asks for, and its operand
pub mod Fills
pub mod Operands
pub mod Looks
pub mod AtWork
-- a process
pub mod Processes
-- and its walk through indirect words
pub mod Looking
