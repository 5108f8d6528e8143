pub mod ExprBraces
pub mod OnePair
pub mod TypeBraces
