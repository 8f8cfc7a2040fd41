mod Behind
mod FirstLine
mod Written
