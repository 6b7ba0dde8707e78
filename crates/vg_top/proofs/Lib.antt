mod Handled
mod Agreeing
mod NamesApart
mod Replayed
mod Verifying
mod Captures
mod Unique
mod Printing
