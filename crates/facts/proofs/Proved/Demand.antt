-- Laws of specs/Demand.antt. Assumes nothing.
pub mod Laws
