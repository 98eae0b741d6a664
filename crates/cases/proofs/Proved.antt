-- Laws of what the contracts cite; specs/ has the definitions. Assumes nothing.
pub mod Calls
