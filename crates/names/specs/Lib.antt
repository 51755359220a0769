-- What every crate shares: the float of a bit pattern, the customer's numbers, what a refusal is and what follows from none, and a scene's lists.
pub mod Bits
pub mod Numbers
pub mod Refusals
pub mod Passed
pub mod Answers
pub mod AnswersLaws
pub mod Scene
pub mod SolidLaws
