mod Feeding
mod OneAnswer
