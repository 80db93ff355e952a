pub mod ProcessCall
